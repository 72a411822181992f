-- How long a valid message is. Assumes nothing.
use Rattle.std.proofs.Common.{◌≡◌, ℕ, suc, ◌+◌, ◌-◌, ◌*◌, ◌/◌, ◌^◌, ◌≤◌, min, Bool, true, false, cond, not, eqb, leb, List, [], ◌∷◌, ◌++◌, length, take, sym, refl, ap, ◌∙◌, subst, arith, length-append, length-take, eqb-true, leb-true}
use Rattle.bits.specs.Puts.{binary}
use Rattle.bits.proofs.PutLaws.{length_binary}
use Rattle.codec.specs.Codec.{Codec, both, number, pure, guard, choose, vec_bits}
use Rattle.codec.specs.Options.{Optional, absent, there, flag, optional}
use Rattle.codec.proofs.Good.{both_left, both_right}
use Rattle.profile.specs.Rules.{meaning_in}
use Rattle.profile.specs.declared.Kind.{Kind}
use Rattle.profile.specs.declared.Kind.TheVariants as kind
use Rattle.profile.specs.declared.Meaning.{Meaning}
use Rattle.profile.specs.declared.Air.{Air}
use Rattle.message.specs.Elements as element
use Rattle.message.specs.Addresses.{is_zero, kind_c, extension_c, address_c}
use Rattle.message.specs.Groups.{addresses_by, addresses_in, span_by, span_in, places_c, addresses_c, range_c, group_c, span_of}
use Rattle.message.specs.Areas.{area_c, area_places_c, area_list_c, areas_c}
use Rattle.message.specs.Acks.{mask_c, masked_c, result_c, state_c}
use Rattle.message.specs.Numbers as place
use Rattle.message.specs.Numbers.{widths, width_of}
use Rattle.message.specs.Values.{blank, number_at}
use Rattle.message.specs.Rows.{no_row, users, masked, result, of_restriction, ack_row, table, row_in, row_of, Holds, part_c, put, get, Tuple, parts_c, puts, gets, Options, put_option, get_options, some_of, none_of, each_c, options_c, first_parts, parts_of, options_of}
use Rattle.message.specs.Messages.{holds_just, message_of, body_c, header_c, message_c}
use Rattle.message.specs.declared.Part.{Part}
use Rattle.message.specs.declared.Part.TheVariants as part
use Rattle.message.specs.declared.Row.{Row}
use Rattle.message.proofs.TableLaws.{all_rows, each_row}
use Rattle.message.proofs.GroupLaws.{few_addresses, few_identities, range_allowed}
use Rattle.message.specs.declared.Address.{Address}
use Rattle.message.specs.declared.Group.{Group}
use Rattle.message.specs.declared.Areas.{Areas}
use Rattle.message.specs.declared.State.{State}
use Rattle.message.specs.declared.Value.{Value}
use Rattle.writing.specs.Writing.{bits_of, bytes_for}
use Rattle.validity.specs.Validity.{valid_of}
use Rattle.writing.proofs.PartLaws.{group_alike, state_bits}

-- ---- what a valid message's body is

pub valid_body : (air : Air) (v : Value) → valid_of air v ≡ true → (body_c air v.pdu).ok v ≡ true
unfolding valid_of message_c
valid_body air v e = both_right _ _ (both_right true _ e)

-- ---- how long the parts are

address_most : (a : Address) → length ((address_c false).bits a) ≤ 50
unfolding address_c kind_c extension_c number
address_most a = go (eqb a.kind 1)
  where
    go : (b : Bool) → length (binary 2 a.kind ++ (binary 24 a.ssi ++ (choose b (pure 0 is_zero) (number element.extension 24)).bits a.extension)) ≤ 50
    go true = simp (length-append, length_binary) (omega arith)
    go false = simp (length-append, length_binary) (omega arith)

vec_most : (xs : List Address) → length (vec_bits (address_c false) xs) ≤ 50 * length xs
vec_most [] = omega arith
vec_most (a ∷ xs) = omega (arith, address_most a, vec_most xs, length-append ((address_c false).bits a) (vec_bits (address_c false) xs))

places_most : (k : ℕ) (l : List Address) → length ((places_c false k).bits l) ≤ 50 * k
unfolding places_c
places_most k l = omega (arith, vec_most (take k l), length-take k l)

module _ (air : Air) (none : Bool) (g : Group) where
  abbrev m : Meaning
  m = meaning_in air.meanings g.range

  group_length : length ((group_c air none false).bits g) ≤ 4 + 50 * addresses_in m
  unfolding group_c range_c addresses_c number
  group_length = omega (arith, length-append (binary 4 g.range) ((places_c false (addresses_in m)).bits g.addresses), length_binary 4 g.range, places_most (addresses_in m) g.addresses)

  few_of : (external : Bool) → (group_c air none external).ok g ≡ true → addresses_in m ≤ 15
  unfolding group_c
  few_of external v = few_addresses none m (range_allowed air none g.range (both_left _ _ (both_right true _ v)))

  group_most : (group_c air none false).ok g ≡ true → length ((group_c air none false).bits g) ≤ 754
  group_most v = omega (arith, group_length, few_of false v)

  -- a long list names few identities, and a range that names many has two addresses
  named_by : (k : Kind) (n : ℕ) (l : List Address) → addresses_by k n ≤ 15 → span_by k n l ≤ 64 → 50 * addresses_by k n + span_by k n l ≤ 765
  named_by kind.Reserved n l h s = omega arith
  named_by kind.Nobody n l h s = omega arith
  named_by kind.Listed n l h s = omega arith
  named_by kind.FirstLast n l h s = omega arith

  group_span_most : (group_c air none false).ok g ≡ true → length ((group_c air none false).bits g) + span_of air g ≤ 769
  unfolding addresses_in span_of span_in
  group_span_most v =
      omega (arith, group_length, named_by m.kind m.count g.addresses (few_of false v) (few_identities air none false g v))

destinations_most : (air : Air) (g : Group) → (group_c air true true).ok g ≡ true → length ((group_c air true true).bits g) ≤ 754
destinations_most air g v =
    omega (arith, ap (λ (bs : List ℕ). length bs) (group_alike air g), group_length air true g, few_of air true g true v)

area_vec_length : (xs : List ℕ) → length (vec_bits area_c xs) ≡ 4 * length xs
unfolding number
area_vec_length [] = refl
area_vec_length (a ∷ xs) = omega (arith, length-append (binary 4 a) (vec_bits area_c xs), length_binary 4 a, area_vec_length xs)

areas_most : (air : Air) (a : Areas) → (areas_c air).ok a ≡ true → length ((areas_c air).bits a) ≤ 64
unfolding areas_c area_list_c area_places_c range_c number
areas_most air a v =
    let k = addresses_in (meaning_in air.meanings a.range) in
    omega (
      arith,
      length-append (binary 4 a.range) (vec_bits area_c (take k a.areas)),
      length_binary 4 a.range,
      area_vec_length (take k a.areas),
      length-take k a.areas,
      few_addresses true (meaning_in air.meanings a.range) (range_allowed air true a.range (both_left _ _ (both_right true _ v))),
    )

masked_most : (n : ℕ) (b : Bool) (k : ℕ) → length ((masked_c n).bits (b, k)) ≤ 1 + n
unfolding masked_c mask_c flag number
masked_most n true k = omega (arith, length-append (binary 1 1) (binary n (k / 2 ^ (64 - n))), length_binary 1 1, length_binary n (k / 2 ^ (64 - n)))
masked_most n false k = omega (arith, length-append (binary 1 0) [], length_binary 1 0)

result_most : (r w : ℕ) → length (result_c.bits (r, w)) ≤ 8
unfolding result_c number
result_most r w = go (eqb r 1)
  where
    go : (b : Bool) → length (binary 1 r ++ (choose b (pure 0 is_zero) (number element.reason 7)).bits w) ≤ 8
    go true = omega (arith, length-append (binary 1 r) [], length_binary 1 r)
    go false = omega (arith, length-append (binary 1 r) (binary 7 w), length_binary 1 r, length_binary 7 w)

state_most : (s : State) → length (state_c.bits s) ≤ 7
state_most s = rw (state_bits s) (go (eqb s.result 1))
  where
    go : (b : Bool)
        → length (binary 1 s.result ++ (cond b [] (binary 3 s.reason) ++ (cond b (binary 1 s.activation) [] ++ (cond b (binary 1 s.interception) []
        ++ (cond b (binary 2 s.called) [] ++ cond b (binary 2 s.calling) []))))) ≤ 7
    go true = simp (length-append, length_binary) (omega arith)
    go false = simp (length-append, length_binary) (omega arith)

-- ---- how long a row's parts are

abbrev most_of : Part → ℕ
most_of part.Nothing = 0
most_of (part.Number k) = width_of k
most_of part.Users = 754
most_of (part.User i) = 50
most_of part.Masked = 65
most_of part.Result = 8
most_of part.Dispatchers = 754
most_of part.Dispatcher = 50
most_of part.Interrogation = 7
most_of part.Sources = 754
most_of part.Destinations = 754
most_of part.Areas = 64

part_most : (air : Air) (w : Value) (p : Part) (x : Holds p) → (part_c air w p).ok x ≡ true → length ((part_c air w p).bits x) ≤ most_of p
unfolding number
part_most air w part.Nothing x e = omega arith
part_most air w (part.Number k) x e = omega (arith, length_binary (width_of k) x)
part_most air w part.Users x e = group_most air false x e
part_most air w (part.User i) x e = address_most x
part_most air w part.Masked x e = omega (arith, masked_most (min (span_of air w.users) 64) x.0 x.1)
part_most air w part.Result x e = result_most x.0 x.1
part_most air w part.Dispatchers x e = group_most air true x e
part_most air w part.Dispatcher x e = address_most x
part_most air w part.Interrogation x e = state_most x
part_most air w part.Sources x e = group_most air true x e
part_most air w part.Destinations x e = destinations_most air x e
part_most air w part.Areas x e = areas_most air x e

abbrev most_in : List Part → ℕ
most_in [] = 0
most_in (p ∷ ps) = most_of p + most_in ps

parts_most : (air : Air) (w : Value) (ps : List Part) (x : Tuple ps) → (parts_c air w ps).ok x ≡ true → length ((parts_c air w ps).bits x) ≤ most_in ps
unfolding parts_c
parts_most air w [] x e = omega arith
parts_most air w (p ∷ ps) x e =
    omega (
      arith,
      length-append ((part_c air w p).bits x.0) ((parts_c air (put p x.0 w) ps).bits x.1),
      part_most air w p x.0 (both_left _ _ e),
      parts_most air (put p x.0 w) ps x.1 (both_right ((part_c air w p).ok x.0) _ e),
    )

-- ---- how long its options are: a P-bit each, and an O-bit

option_most : (air : Air) (w : Value) (q : Part) (x : Optional (Holds q)) → (optional element.p_bit (part_c air w q)).ok x ≡ true
    → length ((optional element.p_bit (part_c air w q)).bits x) ≤ 1 + most_of q
unfolding flag number
option_most air w q absent e = omega (arith, length-append (binary 1 0) [], length_binary 1 0)
option_most air w q (there a) e =
    omega (
      arith,
      length-append (binary 1 1) ((part_c air w q).bits a),
      length_binary 1 1,
      part_most air w q a (both_right ((flag element.p_bit).ok true) _ (both_right true _ e)),
    )

abbrev most_each : List Part → ℕ
most_each [] = 0
most_each (q ∷ qs) = 1 + most_of q + most_each qs

each_most : (air : Air) (i : ℕ) (w : Value) (qs : List Part) (x : Options qs) → (each_c air i w qs).ok x ≡ true → length ((each_c air i w qs).bits x) ≤ most_each qs
unfolding each_c
each_most air i w [] x e = omega arith
each_most air i w (q ∷ qs) x e =
    omega (
      arith,
      length-append ((optional element.p_bit (part_c air w q)).bits x.0) ((each_c air (suc i) (put_option i q x.0 w) qs).bits x.1),
      option_most air w q x.0 (both_left _ _ e),
      each_most air (suc i) (put_option i q x.0 w) qs x.1 (both_right ((optional element.p_bit (part_c air w q)).ok x.0) _ e),
    )

abbrev most_under : List Part → ℕ
most_under [] = 0
most_under (q ∷ qs) = 1 + most_each (q ∷ qs)

options_most : (air : Air) (w : Value) (qs : List Part) (x : Options qs) → (options_c air w qs).ok x ≡ true → length ((options_c air w qs).bits x) ≤ most_under qs
unfolding options_c flag number
options_most air w [] x e = omega arith
options_most air w (q ∷ qs) x e = go (some_of (q ∷ qs) x) (both_right ((flag element.o_bit).ok (some_of (q ∷ qs) x)) _ (both_right true _ e))
  where
    go : (b : Bool) → (choose b (guard 12 (some_of (q ∷ qs)) (each_c air 0 w (q ∷ qs))) (pure (none_of (q ∷ qs)) (λ y. not (some_of (q ∷ qs) y)))).ok x ≡ true
        → length (binary 1 (cond b 1 0) ++ (choose b (guard 12 (some_of (q ∷ qs)) (each_c air 0 w (q ∷ qs))) (pure (none_of (q ∷ qs)) (λ y. not (some_of (q ∷ qs) y)))).bits x) ≤ most_under (q ∷ qs)
    go true k =
        omega (
          arith,
          length-append (binary 1 1) ((each_c air 0 w (q ∷ qs)).bits x),
          length_binary 1 1,
          each_most air 0 w (q ∷ qs) x (both_left ((each_c air 0 w (q ∷ qs)).ok x) _ k),
        )
    go false k = omega (arith, length-append (binary 1 0) [], length_binary 1 0)

-- ---- how long a row is

abbrev most_of_row : Row → ℕ
most_of_row r = most_in (parts_of r) + most_under (options_of r)

-- ---- a message that begins with users has good ones

pub begins_users : (air : Air) (t : ℕ) (ps qs : List Part) (v : Value) → (message_of t (users ∷ ps) qs air).ok v ≡ true → (group_c air false false).ok v.users ≡ true
unfolding parts_c gets
begins_users air t ps qs v e = both_left _ _ (both_left _ _ (both_right _ _ e))

-- ---- an ACK, of whatever type: a long list of users has a short mask

abbrev pub ack_c : Air → ℕ → Codec Value
ack_c air t = message_of t (users ∷ masked ∷ result ∷ []) [] air

-- a type whose row is an ACK's has an ACK's body
pub ack_body : (air : Air) (t : ℕ) → row_of t ≡ ack_row → body_c air t ≡ ack_c air t
unfolding body_c first_parts
ack_body air t e = ap (λ (r : Row). message_of t (parts_of r) (options_of r) air) e

ack_most : (air : Air) (t : ℕ) (v : Value) → (ack_c air t).ok v ≡ true → length ((ack_c air t).bits v) ≤ 778
unfolding parts_c gets options_c
ack_most air t v e =
    let n = min (span_of air v.users) 64 in
    let us = (group_c air false false).bits v.users in
    let ms = (masked_c n).bits (v.masked, v.mask) in
    let rs = result_c.bits (number_at place.result v, number_at place.reason v) in
    omega (
      arith,
      length-append (us ++ (ms ++ (rs ++ []))) [],
      length-append us (ms ++ (rs ++ [])),
      length-append ms (rs ++ []),
      length-append rs [],
      group_span_most air false v.users (begins_users air t (masked ∷ result ∷ []) [] v e),
      masked_most n v.masked v.mask,
      result_most (number_at place.result v) (number_at place.reason v),
    )

-- ---- INTERROGATE ACK is the longest

abbrev pub interrogate_ack_c : Air → ℕ → Codec Value
interrogate_ack_c air t = message_of t (users ∷ masked ∷ part.Interrogation ∷ []) of_restriction air

interrogate_ack_most : (air : Air) (t : ℕ) (v : Value) → (interrogate_ack_c air t).ok v ≡ true → length ((interrogate_ack_c air t).bits v) ≤ 3108
unfolding parts_c gets puts
interrogate_ack_most air t v e =
    let ps = users ∷ masked ∷ part.Interrogation ∷ [] in
    let w = puts ps (gets ps v) (blank t) in
    let ok = both_right (holds_just t ps of_restriction v) _ e in
    let n = min (span_of air v.users) 64 in
    let us = (group_c air false false).bits v.users in
    let ms = (masked_c n).bits (v.masked, v.mask) in
    let ss = state_c.bits (get part.Interrogation v) in
    let os = (options_c air w of_restriction).bits (get_options 0 of_restriction v) in
    omega (
      arith,
      length-append (us ++ (ms ++ (ss ++ []))) os,
      length-append us (ms ++ (ss ++ [])),
      length-append ms (ss ++ []),
      length-append ss [],
      group_span_most air false v.users (begins_users air t (masked ∷ part.Interrogation ∷ []) of_restriction v e),
      masked_most n v.masked v.mask,
      state_most (get part.Interrogation v),
      options_most air w of_restriction (get_options 0 of_restriction v) (both_right ((parts_c air (blank t) ps).ok (gets ps v)) _ ok),
    )

-- of one user, and with no group
pub one_state_most : (air : Air) (t : ℕ) (v : Value) → addresses_in (meaning_in air.meanings v.users.range) ≤ 1 → span_of air v.users ≤ 1
    → some_of of_restriction (get_options 0 of_restriction v) ≡ false → length ((interrogate_ack_c air t).bits v) ≤ 64
unfolding parts_c gets puts options_c flag number
one_state_most air t v few one none =
    let ps = users ∷ masked ∷ part.Interrogation ∷ [] in
    let w = puts ps (gets ps v) (blank t) in
    let n = min (span_of air v.users) 64 in
    let us = (group_c air false false).bits v.users in
    let ms = (masked_c n).bits (v.masked, v.mask) in
    let ss = state_c.bits (get part.Interrogation v) in
    let x = get_options 0 of_restriction v in
    let os = binary 1 (cond (some_of of_restriction x) 1 0) ++ (choose (some_of of_restriction x) (guard 12 (some_of of_restriction) (each_c air 0 w of_restriction)) (pure (none_of of_restriction) (λ y. not (some_of of_restriction y)))).bits x in
    let shut : length os ≤ 1 = rw none (omega (arith, length-append (binary 1 0) [], length_binary 1 0)) in
    omega (
      arith,
      length-append (us ++ (ms ++ (ss ++ []))) os,
      length-append us (ms ++ (ss ++ [])),
      length-append ms (ss ++ []),
      length-append ss [],
      group_length air false v.users,
      masked_most n v.masked v.mask,
      state_most (get part.Interrogation v),
      shut,
    )

pub interrogate_ack_body : (air : Air) → body_c air 9 ≡ interrogate_ack_c air 9
unfolding body_c row_of row_in table first_parts
interrogate_ack_body air = refl

-- any other row
abbrev short : ℕ → Row → Bool
short t r = cond (eqb t 9) true (leb (most_of_row r) 1510)

all_short : all_rows short table ≡ true
unfolding table first_parts width_of widths both
all_short = refl

none_short : (t : ℕ) → short t no_row ≡ true
unfolding first_parts
none_short t = go (eqb t 9)
  where
    go : (b : Bool) → cond b true (leb (most_of_row no_row) 1510) ≡ true
    go true = refl
    go false = refl

few_in : (t : ℕ) → eqb t 9 ≡ false → most_of_row (row_of t) ≤ 1510
unfolding row_of
few_in t e =
    leb-true (most_of_row (row_in table t)) 1510
    (ap (λ (b : Bool). cond b true (leb (most_of_row (row_in table t)) 1510)) (sym e) ∙ each_row short table t all_short (none_short t))

row_most : (air : Air) (t : ℕ) (v : Value) → eqb t 9 ≡ false → (body_c air t).ok v ≡ true → length ((body_c air t).bits v) ≤ 1510
unfolding body_c
row_most air t v other e =
    let ps = parts_of (row_of t) in
    let qs = options_of (row_of t) in
    let w = puts ps (gets ps v) (blank t) in
    let ok = both_right (holds_just t ps qs v) _ e in
    omega (
      arith,
      few_in t other,
      length-append ((parts_c air (blank t) ps).bits (gets ps v)) ((options_c air w qs).bits (get_options 0 qs v)),
      parts_most air (blank t) ps (gets ps v) (both_left _ _ ok),
      options_most air w qs (get_options 0 qs v) (both_right ((parts_c air (blank t) ps).ok (gets ps v)) _ ok),
    )

body_most : (air : Air) (t : ℕ) (v : Value) → (body_c air t).ok v ≡ true → length ((body_c air t).bits v) ≤ 3108
body_most air t v e = go (eqb t 9) refl
  where
    nine : t ≡ 9 → length ((body_c air t).bits v) ≤ 3108
    nine d =
        let b = ap (body_c air) d ∙ interrogate_ack_body air in
        let k = interrogate_ack_most air 9 v (subst (λ (c : Codec Value). c.ok v ≡ true) b e) in
        omega (arith, k, ap (λ (c : Codec Value). length (c.bits v)) b)

    go : (b : Bool) → eqb t 9 ≡ b → length ((body_c air t).bits v) ≤ 3108
    go true d = nine (eqb-true t 9 d)
    go false d = omega (arith, row_most air t v d e)

-- ---- how long the messages are

pub header_length : (air : Air) (v : Value) → length (bits_of air v) ≡ 11 + length ((body_c air v.pdu).bits v)
unfolding bits_of message_c header_c number
header_length air v = simp (length-append, length_binary) refl

-- no message is empty
pub message_some : (air : Air) (v : Value) → 11 ≤ length (bits_of air v)
message_some air v = omega (arith, header_length air v)

-- the longest is an INTERROGATE ACK of 3,119 bits: fifteen users with a mask, dispatchers, sources and destinations of kind 2, fifteen areas;
-- 4,096 are allowed
pub message_most : (air : Air) (v : Value) → valid_of air v ≡ true → length (bits_of air v) ≤ 3119
message_most air v ok = omega (arith, header_length air v, body_most air v.pdu v (valid_body air v ok))

-- the longest ACK has 789 bits, so 99 bytes: the desk's stand 100 bytes apart
pub ack_message_most : (air : Air) (v : Value) → valid_of air v ≡ true → row_of v.pdu ≡ ack_row → length (bits_of air v) ≤ 789
ack_message_most air v ok e =
    let b = ack_body air v.pdu e in
    let k = ack_most air v.pdu v (subst (λ (c : Codec Value). c.ok v ≡ true) b (valid_body air v ok)) in
    omega (arith, header_length air v, k, ap (λ (c : Codec Value). length (c.bits v)) b)

pub ack_bytes_most : (air : Air) (v : Value) → valid_of air v ≡ true → row_of v.pdu ≡ ack_row → bytes_for (length (bits_of air v)) ≤ 99
ack_bytes_most air v ok e = omega (arith, ack_message_most air v ok e)
