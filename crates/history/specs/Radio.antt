-- What goes out on the radio along a history: beside each call and its answer, the messages that it says it wrote, as they stand in the
-- output area afterwards. What a dispatcher without a console has of a waiting call is a REQUEST (document 02, iv).
use Rattle.std.specs.Prelude.{ℕ, ◌+◌, ◌≡◌, Bool, List, [], ◌∷◌, eqb, ltb, length}
use Rattle.codec.specs.Codec.{both}
use Rattle.profile.specs.Counting.{one}
use Rattle.profile.specs.declared.Profile.{Profile}
use Rattle.message.specs.Values.{identifier_in}
use Rattle.message.specs.declared.Value.{Value}
use Rattle.sending.specs.declared.Laid.{Laid}
use Rattle.desk.specs.Notices.{intercepted, request_with}
use Rattle.desk.specs.Outputs.{ReadBack}
use Rattle.desk.specs.Steps.{area_after}
use Rattle.desk.specs.declared.Answer.{Answer}
use Rattle.desk.specs.declared.Answer.TheVariants as answer
use Rattle.desk.specs.declared.Desk.{Desk}
use Rattle.desk.specs.Changes.{change_of}
use Rattle.history.specs.Histories.{Call, Turn, one_call, one_change, step_for, Waiting, count_by, meant_by}

-- a call, its answer, how many messages it wrote and their lengths, and the output area afterwards
pub record Entry : Type 0 where
  pub call : Call
  pub answer : Answer
  pub laid : Laid
  pub output : List ℕ

abbrev pub entry_of : Desk → Call → Entry
entry_of d c =
    record {
      call = c;
      answer = (step_for d c).answer;
      laid = (step_for d c).laid;
      output = area_after d c.rows c.count c.message c.area c.event;
    }

-- of some turns, the first one first; new shares are nothing on the radio
unfoldable pub log_of : Desk → List Turn → List Entry
log_of d [] = []
log_of d (one_call c ∷ turns) = entry_of d c ∷ log_of (step_for d c).desk turns
log_of d (one_change rows ∷ turns) = log_of (change_of d rows).desk turns

-- the messages that it wrote are these: as many as it says, the k-th read from byte 100 × k with the length that it says
abbrev pub Written : Profile → Entry → List Value → Type 0
Written p x vs = (x.laid.count ≡ length vs) × ReadBack p x.laid x.output 0 vs

-- a REQUEST of this call, and how many there are
abbrev pub is_request_of : ℕ → Value → Bool
is_request_of identifier v = both (eqb v.pdu 11) (eqb (identifier_in v) identifier)

unfoldable pub requests_in : ℕ → List Value → ℕ
requests_in identifier [] = 0
requests_in identifier (v ∷ vs) = one (is_request_of identifier v) + requests_in identifier vs

-- an entry without a REQUEST of this call, and some of them
pub record Silent (p : Profile) (identifier : ℕ) (x : Entry) : Type 0 where
  pub messages : List Value
  pub written : Written p x messages
  pub none : requests_in identifier messages ≡ 0

abbrev pub AllSilent : Profile → ℕ → List Entry → Type 0
AllSilent p identifier [] = Unit
AllSilent p identifier (x ∷ h) = Silent p identifier x × AllSilent p identifier h

-- by this entry the call came to the post: it was admitted for it, and REQUEST with its identifier and cause was written after INTERCEPTED, from
-- byte 100 on; or it was moved there, and REQUEST was written from byte 0 on
pub data Came (p : Profile) (identifier post cause : ℕ) (x : Entry) : Type 0 where
  admitted : (place : ℕ) → meant_by p x.call.message x.call.event ≡ identifier → x.answer ≡ answer.Admitted post place
      → Written p x (intercepted ∷ request_with identifier cause ∷ []) → Came p identifier post cause x
  moved : meant_by p x.call.message x.call.event ≡ identifier → x.answer ≡ answer.Moved post
      → Written p x (request_with identifier cause ∷ []) → Came p identifier post cause x

-- the call came to the post by an entry with its REQUEST, and no other REQUEST of it was written since
pub data Asked (p : Profile) (identifier post cause : ℕ) : List Entry → Type 0 where
  last : (x : Entry) (h : List Entry) → Came p identifier post cause x → AllSilent p identifier h → Asked p identifier post cause (x ∷ h)
  later : (x : Entry) (h : List Entry) → Asked p identifier post cause h → Asked p identifier post cause (x ∷ h)

-- a call with this identifier and cause waits at this post; one with this identifier does
unfoldable pub is_waiting_so : List Waiting → ℕ → ℕ → ℕ → Bool
is_waiting_so w identifier post cause = ltb 0 (count_by (λ x. both (eqb x.identifier identifier) (both (eqb x.post post) (eqb x.cause cause))) w)

unfoldable pub is_waiting_at : List Waiting → ℕ → ℕ → Bool
is_waiting_at w identifier post = ltb 0 (count_by (λ x. both (eqb x.identifier identifier) (eqb x.post post)) w)
