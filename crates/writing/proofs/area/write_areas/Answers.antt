use Rattle.codec.specs.Codec.{number}
use Rattle.message.specs.Areas.{area_list_c, areas_c}
use Rattle.message.specs.Groups.{range_c}
use Rattle.writing.proofs.WroteLaws.{wrote_join}
use Rattle.writing.proofs.area.write_areas.Goals as goal

pub returns : goal.returns
unfolding areas_c range_c area_list_c number
returns c =
    wrote_join c.byte-p.ensures (rw (c.addresses_in-count.ensures, c.meaning_of.ensures) at c.write_places.ensures)
