use mathlib.Core.Path.{sym, ◌∙◌}
use Rattle.codec.specs.Codec.{both}
use Rattle.message.specs.Areas.{area_list_c}
use Rattle.validity.proofs.area.list_ok.Goals as goal

pub returns-then-places_ok : goal.returns-then-places_ok
unfolding area_list_c both
returns-then-places_ok c =
    rw (← c.addresses_in.ensures, sym c.places_ok.ensures ∙ c.if-places_ok.true) c.areas_rise.ensures

pub returns-else-places_ok : goal.returns-else-places_ok
unfolding area_list_c both
returns-else-places_ok c =
    rw (← c.addresses_in.ensures, c.if-places_ok.false, sym c.places_ok.ensures ∙ c.if-places_ok.false)
