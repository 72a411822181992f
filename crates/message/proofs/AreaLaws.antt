-- Areas are a good codec. Assumes nothing.
use Prim.Native.Nat.{ℕ, ◌≤◌}
use mathlib.Core.Path.{refl}
use Rattle.codec.proofs.Good.{Good}
use Rattle.codec.proofs.Combinators.{good_number, good_guard, good_seq, good_iso}
use Rattle.profile.specs.Rules.{meaning_in}
use Rattle.profile.specs.declared.Meaning.{Meaning}
use Rattle.profile.specs.declared.Air.{Air}
use mathlib.Core.Bool.{true}
use Rattle.message.specs.Elements as element
use Rattle.message.specs.Addresses.{is_zero}
use Rattle.message.specs.Groups.{addresses_in, range_c}
use Rattle.message.specs.Areas.{area_c, area_places_c, rises, area_list_c, areas_c}
use Rattle.message.proofs.AddressLaws.{zero_is}
use Rattle.message.proofs.GroupLaws.{good_fifteen, few_addresses, good_range, range_allowed}

good_area_places : (k : ℕ) → k ≤ 15 → Good (area_places_c k)
unfolding area_places_c
good_area_places k h = good_fifteen 0 is_zero area_c zero_is refl (good_number element.area 4) k h

good_area_list : (m : Meaning) → addresses_in m ≤ 15 → Good (area_list_c m)
unfolding area_list_c
good_area_list m h = good_guard 11 (λ l. rises m l) (area_places_c (addresses_in m)) refl (good_area_places (addresses_in m) h)

pub good_areas : (air : Air) → Good (areas_c air)
unfolding areas_c
good_areas air =
    good_iso _ _ _ (λ x v. refl) (λ b _. refl)
    (good_seq (range_c air true) (λ r. area_list_c (meaning_in air.meanings r)) (good_range air true)
    (λ r v. good_area_list (meaning_in air.meanings r) (few_addresses true (meaning_in air.meanings r) (range_allowed air true r v))))
