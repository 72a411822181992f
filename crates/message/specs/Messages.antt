-- The messages as codecs of one flat value: a row of parts after the header. A value is a message's if it is what its parts and options
-- make of a blank one: so all that the message doesn't carry is zero.
use Rattle.std.specs.Prelude.{ℕ, Bool, true, List, eqb, leb}
use Rattle.codec.specs.Codec.{Codec, both, number, guard, seq, map}
use Rattle.profile.specs.declared.Air.{Air}
use Rattle.message.specs.Elements as element
use Rattle.message.specs.Values.{blank, same_value}
use Rattle.message.specs.Rows.{row_of, parts_of, options_of, Tuple, Options, parts_c, puts, gets, options_c, put_options, get_options}
use Rattle.message.specs.declared.Value.{Value}
use Rattle.message.specs.declared.Part.{Part}

-- ---- after the first 11 bits

module _ (t : ℕ) (ps qs : List Part) where
  -- what a message of type t holds in its parts and in its options, as a value, and taken out of one
  abbrev pub fill : Tuple ps × Options qs → Value
  fill x = put_options 0 qs x.1 (puts ps x.0 (blank t))

  abbrev pub taken : Value → Tuple ps × Options qs
  taken v = (gets ps v, get_options 0 qs v)

  -- the value has these parts and options, and nothing else
  abbrev pub holds_just : Value → Bool
  holds_just v = same_value (fill (taken v)) v

  abbrev pub message_of : Air → Codec Value
  message_of air = map fill taken holds_just (seq (parts_c air (blank t) ps) (λ x. options_c air (puts ps x (blank t)) qs))

unfoldable pub body_c : Air → ℕ → Codec Value
body_c air t = message_of t (parts_of (row_of t)) (options_of (row_of t)) air

-- ---- the first 11 bits

-- 2 to 18 are CAD PDU types
unfoldable pub is_known : ℕ → Bool
is_known t = both (leb 2 t) (leb t 18)

-- the types that are carried
unfoldable pub is_carried : ℕ → Bool
is_carried t = (row_of t).carried

-- SS type and PDU type; then 5, 6, 7
unfoldable pub header_c : ℕ → Codec (ℕ × ℕ)
header_c ss =
    guard 7 (λ x. is_carried x.1) (guard 6 (λ x. is_known x.1) (guard 5 (λ x. eqb x.0 ss)
    (seq (number element.ss_type 6) (λ _. number element.pdu_type 5))))

unfoldable pub message_c : Air → Codec Value
message_c air =
    map
    (λ (x : (ℕ × ℕ) × Value). x.1)
    (λ (v : Value). ((air.ss, v.pdu), v))
    (λ _. true)
    (seq (header_c air.ss) (λ h. body_c air h.1))
