use Rattle.codec.specs.Codec.{number}
use Rattle.message.specs.Groups.{addresses_c, range_c, group_c}
use Rattle.writing.proofs.WroteLaws.{wrote_join}
use Rattle.writing.proofs.group.write_group.Goals as goal

pub returns : goal.returns
unfolding group_c range_c addresses_c number
returns c =
    wrote_join c.byte-p.ensures (rw (c.addresses_in-count.ensures, c.meaning_of.ensures) at c.write_places.ensures)
