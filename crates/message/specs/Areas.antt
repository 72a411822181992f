-- Areas: a range value, then the areas that its meaning has, 4 bits each. First and last may not fall; they may be as far apart as they like.
use Rattle.std.specs.Prelude.{ℕ, Bool, true, List, leb, get_or, replicate}
use Rattle.codec.specs.Codec.{Codec, number, guard, seq, map}
use Rattle.profile.specs.Rules.{meaning_in}
use Rattle.profile.specs.declared.Kind.{Kind}
use Rattle.profile.specs.declared.Kind.TheVariants as kind
use Rattle.profile.specs.declared.Meaning.{Meaning}
use Rattle.profile.specs.declared.Air.{Air}
use Rattle.message.specs.Elements as element
use Rattle.message.specs.Addresses.{is_zero}
use Rattle.message.specs.Groups.{addresses_in, fifteen_c, range_c}
use Rattle.message.specs.declared.Areas.{Areas}

abbrev pub area_c : Codec ℕ
area_c = number element.area 4

-- k areas in the first k of fifteen places
unfoldable pub area_places_c : ℕ → Codec (List ℕ)
area_places_c k = fifteen_c 0 is_zero area_c k

abbrev pub rises_by : Kind → List ℕ → Bool
rises_by kind.Reserved l = true
rises_by kind.Nobody l = true
rises_by kind.Listed l = true
rises_by kind.FirstLast l = leb (get_or l 0 0) (get_or l 1 0)

-- first and last, where it is a range of them, do not fall
unfoldable pub rises : Meaning → List ℕ → Bool
rises m l = rises_by m.kind l

-- 11 after the second area
unfoldable pub area_list_c : Meaning → Codec (List ℕ)
area_list_c m = guard 11 (λ l. rises m l) (area_places_c (addresses_in m))

-- "none" is good
unfoldable pub areas_c : Air → Codec Areas
areas_c air =
    map
    (λ (x : ℕ × List ℕ). record { range = x.0; areas = x.1 })
    (λ (a : Areas). (a.range, a.areas))
    (λ _. true)
    (seq (range_c air true) (λ r. area_list_c (meaning_in air.meanings r)))

unfoldable pub no_areas : Areas
no_areas = record { range = 0; areas = replicate 15 0 }
