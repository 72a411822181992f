-- A row's parts and options laid one after the other, and the whole message. Assumes nothing.
use Prim.Native.Nat.{ℕ, ◌+◌, ◌-◌, ◌*◌, ◌/◌, ◌%◌, ◌≤◌, ◌<◌}
use mathlib.Core.Path.{◌≡◌, refl, sym, ap, ◌∙◌, subst}
use mathlib.Core.Bool.{Bool, true, false, cond, ◌||◌}
use mathlib.Core.List.{List}
use native.Mathlib.Omega.{arith}
use lib.ListN.{length, get_or, drop, set, replicate}
use borrow.Author.Tests.{eq-eqb}
use Rattle.bits.specs.Fields.{bit_at, field_at}
use Rattle.bits.proofs.FieldLaws.{field_is}
use Rattle.codec.specs.Codec.{got, both}
use Rattle.codec.specs.Options.{flag}
use Rattle.codec.proofs.Combinators.{number_got}
use Rattle.profile.specs.declared.Air.{Air}
use Rattle.message.specs.Elements as element
use Rattle.message.specs.Groups.{nobodies, no_group}
use Rattle.message.specs.Areas.{no_areas}
use Rattle.message.specs.Values.{blank, no_lists, with_given}
use Rattle.message.specs.Rows.{table, row_of}
use Rattle.message.specs.Messages.{body_c, is_known, is_carried, header_c, message_c}
use Rattle.message.specs.Reading.{whole_of, read_bits}
use Rattle.message.specs.declared.Part.{Part}
use Rattle.message.specs.declared.Part.TheVariants as part
use Rattle.message.specs.declared.Slot.{Slot}
use Rattle.message.specs.declared.Row.{Row}
use Rattle.message.specs.declared.Value.{Value}
use Rattle.message.proofs.TableLaws.{each_row}
use Rattle.reading.proofs.ReadLaws as read
use Rattle.reading.proofs.WalkLaws.{length_good}
use Rattle.reading.specs.Parts.{judged_of, part_read, parts_read, option_read, each_read, behind_read, options_read}
use Rattle.reading.proofs.RowLaws.{parts_start, parts_turn, parts_end, each_start, each_turn, each_end, options_zero, options_some, body_row}
use Rattle.layouts.specs.Bytes.{number_bytes, rows_bytes}
use Rattle.layouts.specs.Profiles.{air_from}
use Rattle.layouts.specs.Values.{address_bytes, group_bytes, areas_bytes, first_bytes, more_bytes, type_bytes, lists_bytes, value_bytes}
use Rattle.layouts.proofs.FitLaws.{blank_fits}
use Rattle.layouts.proofs.PartLaws.{Laid, Lays, mark_at, mark_laid}

-- what has nothing in it is its type and zeros
pub blank_laid : (a : List ℕ) (t : ℕ) → a ≡ set (replicate 471 0) 0 t → Laid a (blank t)
unfolding blank no_lists no_group no_areas nobodies value_bytes lists_bytes group_bytes areas_bytes rows_bytes address_bytes number_bytes first_bytes more_bytes type_bytes
blank_laid a t e = record { bytes = e; fits = blank_fits t }

module _ (air : Air) (f : ℕ → ℕ) where
  -- by the contract of `lay_part`
  abbrev pub PartLays : Part → ℕ → List ℕ → List ℕ → ℕ → Type 0
  PartLays p at a b r = (v : Value) → Laid a v → Lays (λ n. part_read air v p f n at) at b r

  abbrev pub part_in : List Slot → ℕ → Part
  part_in l i = (get_or l i (record { part = part.Nothing })).part

  module _ (v : Value) (k : ℕ) (l : List Slot) where
    -- ---- the parts: those before the i-th are laid

    pub record Along (i : ℕ) (m : List ℕ) (next : ℕ) : Type 0 where
      pub value : Value
      pub laid : Laid m value
      pub after : 11 ≤ next
      pub read : (n : ℕ) → next ≤ n → parts_read air v k l f n 11 ≡ parts_read air value (k - i) (drop i l) f n next

    pub parts_begin : (a : List ℕ) → Laid a v → Along 0 a 11
    parts_begin a h = record { value = v; laid = h; after = omega arith; read = λ n i. parts_start air v k l f n 11 }

    pub parts_next : (i : ℕ) (m b : List ℕ) (next r : ℕ) → Along i m next → i < k → i < length l → PartLays (part_in l i) next m b r → Along (i + 1) b r
    parts_next i m b next r s h h₂ lays =
        let t = lays s.value s.laid in
        record {
          value = t.value;
          laid = t.laid;
          after = omega (arith, s.after, t.after);
          read = λ n e. s.read n (omega (arith, e, t.after)) ∙ parts_turn k l i air s.value f n next h h₂ t.value r (t.read n e);
        }

    pub parts_done : (i : ℕ) (m : List ℕ) (next : ℕ) → Along i m next → k ≤ i → Lays (λ n. parts_read air v k l f n 11) 11 m next
    parts_done i m next s h =
        record { value = s.value; after = s.after; laid = s.laid; read = λ n e. s.read n e ∙ parts_end k l i air s.value f n next h }

    -- ---- the options from position at on

    module _ (at : ℕ) where
      pub record AlongOptions (i : ℕ) (some : Bool) (m : List ℕ) (next : ℕ) : Type 0 where
        pub value : Value
        pub laid : Laid m value
        pub after : at ≤ next
        pub read : (n : ℕ) → next ≤ n → each_read air 0 false v k l f n at ≡ each_read air i some value (k - i) (drop i l) f n next

      pub options_begin : (a : List ℕ) → Laid a v → AlongOptions 0 false a at
      options_begin a h = record { value = v; laid = h; after = omega arith; read = λ n i. each_start air v k l f n at }

      module _ (i : ℕ) (some : Bool) (m : List ℕ) (next : ℕ) (s : AlongOptions i some m next) (h : i < k) (h₂ : i < length l) where
        option_there : (n r : ℕ) (w : Value) → field_at f next 1 ≡ 1 → next + 1 ≤ n → part_read air s.value (part_in l i) f n (next + 1) ≡ got w r
            → option_read air i s.value (part_in l i) f n next ≡ got (true, with_given i true w) r
        unfolding option_read flag
        option_there n r w bit e read = rw (number_got element.p_bit f n next 1 e, bit, read)

        option_absent : (n : ℕ) → field_at f next 1 ≡ 0 → next + 1 ≤ n → option_read air i s.value (part_in l i) f n next ≡ got (false, s.value) (next + 1)
        unfolding option_read flag
        option_absent n bit e = rw (number_got element.p_bit f n next 1 e, bit)

        or_true : (b : Bool) → (b || true) ≡ true
        or_true true = refl
        or_true false = refl

        or_false : (b : Bool) → (b || false) ≡ b
        or_false true = refl
        or_false false = refl

        pub option_next : (b c : List ℕ) (r : ℕ) → i < 7 → field_at f next 1 ≡ 1 → PartLays (part_in l i) (next + 1) m b r → c ≡ set b (mark_at i) 1 → AlongOptions (i + 1) true c r
        option_next b c r few bit lays e =
            let t = lays s.value s.laid in
            let w = with_given i true t.value in
            record {
              value = w;
              laid = subst (λ (x : List ℕ). Laid x w) (sym e) (mark_laid b t.value t.laid i few);
              after = omega (arith, s.after, t.after);
              read = λ n d.
                  s.read n (omega (arith, d, t.after))
                  ∙ each_turn k l i air s.value f n next some true h h₂ w r (option_there n r t.value bit (omega (arith, d, t.after)) (t.read n d))
                  ∙ ap (λ (b : Bool). each_read air (i + 1) b w (k - (i + 1)) (drop (i + 1) l) f n r) (or_true some);
            }

        pub option_skip : field_at f next 1 ≡ 0 → AlongOptions (i + 1) some m (next + 1)
        option_skip bit =
            record {
              value = s.value;
              laid = s.laid;
              after = omega (arith, s.after);
              read = λ n d.
                  s.read n (omega (arith, d))
                  ∙ each_turn k l i air s.value f n next some false h h₂ s.value (next + 1) (option_absent n bit d)
                  ∙ ap (λ (b : Bool). each_read air (i + 1) b s.value (k - (i + 1)) (drop (i + 1) l) f n (next + 1)) (or_false some);
            }

      pub options_done : (i : ℕ) (some : Bool) (m : List ℕ) (next : ℕ) → some ≡ true → AlongOptions i some m next → k ≤ i → Lays (λ n. behind_read air v k l f n at) at m next
      unfolding behind_read
      options_done i some m next one s h =
          record { value = s.value; after = s.after; laid = s.laid; read = λ n e. rw (s.read n e, each_end k l i air s.value f n next some h, one) }

    -- ---- the O-bit

    module _ (at : ℕ) (some : k ≡ 0 → ⊥) where
      pub no_options : (a : List ℕ) → Laid a v → field_at f at 1 ≡ 0 → Lays (λ n. options_read air v k l f n at) at a (at + 1)
      unfolding flag
      no_options a h bit =
          record { value = v; after = omega arith; laid = h; read = λ n e. options_some air v l f n at k some ∙ rw (number_got element.o_bit f n at 1 e, bit) }

      pub with_options : (b : List ℕ) (r : ℕ) → field_at f at 1 ≡ 1 → Lays (λ n. behind_read air v k l f n (at + 1)) (at + 1) b r → Lays (λ n. options_read air v k l f n at) at b r
      unfolding flag
      with_options b r bit t =
          record {
            value = t.value;
            after = omega (arith, t.after);
            laid = t.laid;
            read = λ n e. options_some air v l f n at k some ∙ rw (number_got element.o_bit f n at 1 (omega (arith, e, t.after)), bit, t.read n e);
          }

    pub without_options : (at : ℕ) (a : List ℕ) → Laid a v → k ≡ 0 → Lays (λ n. options_read air v k l f n at) at a at
    without_options at a h z = record { value = v; after = omega arith; laid = h; read = λ n e. options_zero air v l f n at k z }

  -- ---- the row of a type

  pub body_lays : (t : ℕ) (m b : List ℕ) (p r : ℕ) → Lays (λ n. parts_read air (blank t) (row_of t).count (row_of t).parts f n 11) 11 m p
      → ((w : Value) → Laid m w → Lays (λ n. options_read air w (row_of t).options (row_of t).optional f n p) p b r) → Lays (λ n. (body_c air t).read f n 11) 11 b r
  body_lays t m b p r x y =
      let z = y x.value x.laid in
      record {
        value = z.value;
        after = omega (arith, x.after, z.after);
        laid = z.laid;
        read = λ n e. body_row air t f n 11 ∙ rw (x.read n (omega (arith, e, z.after)), z.read n e);
      }

-- ---- the message

abbrev known_row : ℕ → Row → Bool
known_row t r = cond r.carried (is_known t) true

carried_known : (t : ℕ) → is_carried t ≡ true → is_known t ≡ true
unfolding is_carried is_known row_of table both
carried_known t e = sym (ap (λ (b : Bool). cond b (is_known t) true) e) ∙ each_row known_row table t refl refl

module _ (air : Air) (l : List ℕ) (n head ss t : ℕ) (is : head ≡ field_at (bit_at l) 0 11) (same : head / 32 ≡ ss) (own : ss ≡ air.ss) (type : head % 32 ≡ t) (carried : is_carried t ≡ true) where
  abbrev f : ℕ → ℕ
  f = bit_at l

  header_read : 11 ≤ n → (header_c air.ss).read f n 0 ≡ got (air.ss, t) 11
  unfolding judged_of
  header_read h =
      read.header_read air.ss l n 0 head (is ∙ sym (field_is l 0 11 (omega arith))) (omega arith)
      ∙ rw (same ∙ own, type, eq-eqb air.ss air.ss refl, carried_known t carried, carried)

  pub message_laid : (b : List ℕ) (r : ℕ) (x : Lays (λ n. (body_c air t).read f n 11) 11 b r) → r ≡ n → n ≤ 4096 → n ≤ 8 * length l → read_bits air l n ≡ got x.value n
  unfolding read_bits whole_of message_c
  message_laid b r x e h k =
      let body : (body_c air t).read f n 11 ≡ got x.value n = x.read n (omega (arith, e)) ∙ ap (λ (q : ℕ). got x.value q) e in
      rw (length_good l n (omega (arith, e, x.after)) h k, header_read (omega (arith, e, x.after)), body, eq-eqb n n refl)

-- ---- by the contracts of what goes along a row: `lay_parts`, `lay_behind`, `lay_row`, `lay`

abbrev pub PartsLay : Air → List ℕ → ℕ → List Slot → List ℕ → List ℕ → ℕ → Type 0
PartsLay air l k ps a b r = (v : Value) → Laid a v → Lays (λ n. parts_read air v k ps (bit_at l) n 11) 11 b r

abbrev pub BehindLays : Air → List ℕ → ℕ → List Slot → ℕ → List ℕ → List ℕ → ℕ → Type 0
BehindLays air l k qs at a b r = (v : Value) → Laid a v → Lays (λ n. behind_read air v k qs (bit_at l) n at) at b r

-- what is known along the parts, and along the options: the invariants of two loops
abbrev pub PartsAlong : Air → List ℕ → ℕ → List Slot → List ℕ → ℕ → List ℕ → ℕ → Type 0
PartsAlong air l k ps a i m next = (v : Value) → Laid a v → Along air (bit_at l) v k ps i m next

abbrev pub OptionsAlong : Air → List ℕ → ℕ → List Slot → ℕ → List ℕ → ℕ → Bool → List ℕ → ℕ → Type 0
OptionsAlong air l k qs at a i some m next = (v : Value) → Laid a v → AlongOptions air (bit_at l) v k qs at i some m next

pub record RowLays (air : Air) (l : List ℕ) (t : ℕ) (b : List ℕ) (r : ℕ) : Type 0 where
  pub carried : is_carried t ≡ true
  pub lays : Lays (λ n. (body_c air t).read (bit_at l) n 11) 11 b r

pub record Reads (air : Air) (l : List ℕ) (n : ℕ) (b : List ℕ) : Type 0 where
  pub value : Value
  pub read : read_bits air l n ≡ got value n
  pub laid : Laid b value

-- a row that was found by its type
pub row_lays : (air : Air) (l : List ℕ) (t : ℕ) (row : Row) → row ≡ row_of t → row.carried ≡ true → (a m b : List ℕ) (p r : ℕ) → a ≡ set (replicate 471 0) 0 t
    → PartsLay air l row.count row.parts a m p
    → ((w : Value) → Laid m w → Lays (λ n. options_read air w row.options row.optional (bit_at l) n p) p b r) → RowLays air l t b r
unfolding is_carried
row_lays air l t row e c a m b p r blanks parts options =
    record {
      carried = sym (ap (λ (x : Row). x.carried) e) ∙ c;
      lays =
          body_lays air (bit_at l) t m b p r
          (subst (λ (x : Row). Lays (λ n. parts_read air (blank t) x.count x.parts (bit_at l) n 11) 11 m p) e (parts (blank t) (blank_laid a t blanks)))
          (λ w h. subst (λ (x : Row). Lays (λ n. options_read air w x.options x.optional (bit_at l) n p) p b r) e (options w h));
    }

pub reads_of : (profile l : List ℕ) (n head ss t : ℕ) → head ≡ field_at (bit_at l) 0 11 → head / 32 ≡ ss → ss ≡ get_or profile 0 0 → head % 32 ≡ t → (b : List ℕ) (r : ℕ)
    → RowLays (air_from profile) l t b r → r ≡ n → n ≤ 4096 → (n + 7) / 8 ≤ length l → Reads (air_from profile) l n b
unfolding air_from
reads_of profile l n head ss t is same own type b r x e most there =
    record {
      value = x.lays.value;
      read = message_laid (air_from profile) l n head ss t is same own type x.carried b r x.lays e most (omega (arith, there));
      laid = x.lays.laid;
    }
