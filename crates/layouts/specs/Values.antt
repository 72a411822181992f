-- A value in 471 bytes: [0] PDU type; [1-106] users; [107] mask present, 0 or 1; [108-115] mask; [116] result; [117] reason; [118] cause;
-- [119-120] identifier; [121] the row's first option, 0 or 1; [122-227] dispatchers; [228-233] its further options, 0 or 1 each; [234-236]
-- MNI; [237] [238] area of the calling, of the called; [239] [240] basic service of the calling, of the called; [241] activation type; [242]
-- interception type; [243-348] sources; [349-454] destinations; [455-470] areas. A group is its range number and fifteen addresses of 7
-- bytes: kind, SSI in 3, extension in 3; areas are their range number and fifteen bytes. Identity i's bit of the mask is bit 7 - i mod 8 of
-- byte 108 + i div 8, since the mask is left-aligned.
use Rattle.std.specs.Prelude.{ℕ, ◌+◌, ◌%◌, Bool, false, List, [], ◌∷◌, ◌++◌, eqb, leb, length, get_or, drop}
use Rattle.codec.specs.Codec.{both}
use Rattle.profile.specs.Counting.{one, every}
use Rattle.message.specs.Numbers as place
use Rattle.message.specs.declared.Address.{Address}
use Rattle.message.specs.declared.Group.{Group}
use Rattle.message.specs.declared.Areas.{Areas}
use Rattle.message.specs.declared.Lists.{Lists}
use Rattle.message.specs.declared.Value.{Value}
use Rattle.layouts.specs.Bytes.{number_from, number_bytes, rows_from, rows_bytes}

-- ---- addresses and groups

unfoldable pub address_bytes : Address → List ℕ
address_bytes a = a.kind ∷ number_bytes 3 a.ssi ++ number_bytes 3 a.extension

unfoldable pub address_from : List ℕ → Address
address_from l = record { kind = get_or l 0 0; ssi = number_from 3 (drop 1 l); extension = number_from 3 (drop 4 l) }

unfoldable pub group_bytes : Group → List ℕ
group_bytes g = g.range ∷ rows_bytes address_bytes g.addresses

unfoldable pub group_from : List ℕ → Group
group_from l = record { range = get_or l 0 0; addresses = rows_from address_from 7 15 (drop 1 l) }

-- areas, a byte each
abbrev pub byte_from : List ℕ → ℕ
byte_from l = get_or l 0 0

abbrev pub byte_bytes : ℕ → List ℕ
byte_bytes b = b ∷ []

unfoldable pub areas_bytes : Areas → List ℕ
areas_bytes a = a.range ∷ rows_bytes byte_bytes a.areas

unfoldable pub areas_from : List ℕ → Areas
areas_from l = record { range = get_or l 0 0; areas = rows_from byte_from 1 15 (drop 1 l) }

-- ---- the whole

abbrev pub value_size : ℕ
value_size = 471

-- of a value's numbers and options: result, reason, cause, identifier, and the first option
unfoldable pub first_bytes : List ℕ → List Bool → List ℕ
first_bytes n g =
    get_or n place.result 0 % 256
    ∷ get_or n place.reason 0 % 256
    ∷ get_or n place.cause 0 % 256
    ∷ number_bytes 2 (get_or n place.identifier 0)
    ++ one (get_or g 0 false)
    ∷ []

-- the further options, and REQUEST's network, areas and basic services
unfoldable pub more_bytes : List ℕ → List Bool → List ℕ
more_bytes n g =
    one (get_or g 1 false)
    ∷ one (get_or g 2 false)
    ∷ one (get_or g 3 false)
    ∷ one (get_or g 4 false)
    ∷ one (get_or g 5 false)
    ∷ one (get_or g 6 false)
    ∷ number_bytes 3 (get_or n place.mni 0)
    ++ get_or n place.calling_area 0 % 256
    ∷ get_or n place.called_area 0 % 256
    ∷ get_or n place.calling_service 0 % 256
    ∷ get_or n place.called_service 0 % 256
    ∷ []

-- INTERROGATE ACK's activation and interception type, and its lists
unfoldable pub type_bytes : List ℕ → List ℕ
type_bytes n = get_or n place.activation_type 0 % 256 ∷ get_or n place.interception_type 0 % 256 ∷ []

unfoldable pub lists_bytes : Lists → List ℕ
lists_bytes x = group_bytes x.sources ++ (group_bytes x.destinations ++ areas_bytes x.areas)

unfoldable pub value_bytes : Value → List ℕ
value_bytes v =
    v.pdu
    ∷ group_bytes v.users
    ++ one v.masked
    ∷ number_bytes 8 v.mask
    ++ first_bytes v.numbers v.given
    ++ group_bytes v.dispatchers
    ++ more_bytes v.numbers v.given
    ++ type_bytes v.numbers
    ++ lists_bytes v.lists

-- the byte at a position is "there"
abbrev is_one : ℕ → List ℕ → Bool
is_one at l = eqb (get_or l at 0) 1

unfoldable pub lists_from : List ℕ → Lists
lists_from l = record { sources = group_from (drop 243 l); destinations = group_from (drop 349 l); areas = areas_from (drop 455 l) }

unfoldable pub value_from : List ℕ → Value
value_from l =
    record {
      pdu = get_or l 0 0;
      numbers =
          number_from 2 (drop 119 l)
          ∷ get_or l 118 0
          ∷ get_or l 116 0
          ∷ get_or l 117 0
          ∷ number_from 3 (drop 234 l)
          ∷ get_or l 237 0
          ∷ get_or l 238 0
          ∷ get_or l 239 0
          ∷ get_or l 240 0
          ∷ get_or l 241 0
          ∷ get_or l 242 0
          ∷ 0
          ∷ [];
      users = group_from (drop 1 l);
      masked = is_one 107 l;
      mask = number_from 8 (drop 108 l);
      given = is_one 121 l ∷ is_one 228 l ∷ is_one 229 l ∷ is_one 230 l ∷ is_one 231 l ∷ is_one 232 l ∷ is_one 233 l ∷ [];
      dispatchers = group_from (drop 122 l);
      lists = lists_from l;
    }

-- the shape alone: whether the value is a valid one is `valid_of`'s
unfoldable pub is_value : List ℕ → Bool
is_value l =
    both (eqb (length l) value_size) (both (leb (get_or l 107 0) 1) (both (leb (get_or l 121 0) 1) (every 6 (λ r. leb (get_or l (228 + r) 0) 1))))
