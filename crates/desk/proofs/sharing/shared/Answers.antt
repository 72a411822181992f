use mathlib.Core.Path.{refl}
use Rattle.desk.proofs.ChangeLaws.{change_1, change_23, change_24, change_taken}
use Rattle.desk.proofs.sharing.shared.Goals as goal

pub returns-then-not-sound : goal.returns-then-not-sound
returns-then-not-sound c =
    change_1 _ _ c.new_shares-new.result c.new_shares-new.ensures c.desk_ok-sound.result c.shares_ok-lawful.result c.fits-fitting.result c.desk_ok-sound.ensures c.shares_ok-lawful.ensures c.fits-fitting.ensures c.if-not-sound.true _ _ refl c.refuse.ensures

pub returns-then-not-lawful : goal.returns-then-not-lawful
returns-then-not-lawful c =
    change_23 _ _ c.new_shares-new.result c.new_shares-new.ensures c.desk_ok-sound.result c.shares_ok-lawful.result c.fits-fitting.result c.desk_ok-sound.ensures c.shares_ok-lawful.ensures c.fits-fitting.ensures c.if-not-sound.false c.if-not-lawful.true _ _ refl c.refuse-then-not-lawful.ensures

pub returns-then-not-fitting : goal.returns-then-not-fitting
returns-then-not-fitting c =
    change_24 _ _ c.new_shares-new.result c.new_shares-new.ensures c.desk_ok-sound.result c.shares_ok-lawful.result c.fits-fitting.result c.desk_ok-sound.ensures c.shares_ok-lawful.ensures c.fits-fitting.ensures
    c.if-not-sound.false c.if-not-lawful.false c.if-not-fitting.true _ _ refl c.refuse-then-not-fitting.ensures

pub returns : goal.returns
returns c =
    change_taken _ _ c.new_shares-new.result c.new_shares-new.ensures c.desk_ok-sound.result c.shares_ok-lawful.result c.fits-fitting.result c.desk_ok-sound.ensures c.shares_ok-lawful.ensures c.fits-fitting.ensures c.if-not-sound.false c.if-not-lawful.false c.if-not-fitting.false _ refl
