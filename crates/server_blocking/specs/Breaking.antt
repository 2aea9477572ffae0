-- The moments at which a conversation may be broken off.
use Rattle.std.specs.Prelude.{◌≡◌, ℕ, List, ◌∷◌, ◌++◌, Some, None}
use Rattle.messages.specs.Arrivals.{Arrival, arrivals}
use Rattle.engine.specs.Views.{EntryView}
use Rattle.server_session.specs.Session.{Setting}
use Rattle.server_session.specs.Rest.{Kept, begun, after_item}
use Rattle.server_blocking.specs.Conversing.{Talk, silent, after_bytes, heard_out, steps, talk_of_due}
use Rattle.server_blocking.specs.Views.{SinkView, PutsFront}

-- all that is unsent, and then some of the steps that are due
abbrev pub IsPartOfDue : Setting → ℕ → List EntryView → Kept → Talk → Type 0
IsPartOfDue S c ledger k t =
    (n : ℕ) × (t ≡ after_bytes k.unsent (steps S c n ledger (heard_out k)))

-- what is due once this has arrived
abbrev pub due_of : Setting → ℕ → List EntryView → Kept → Arrival → Talk
due_of S c ledger k a = talk_of_due S c ledger (after_item k (Some a))

-- How far a conversation may have come, by what a session takes each that comes as: nothing was done yet; the first was taken, and some of the
-- steps were made that it makes due; or all of them, and some of what follows. Nothing is done after an end.
pub data ComesTo {A : Type 0} (takes_as : Kept → A → Arrival) (S : Setting) (c : ℕ)
    : List A → List EntryView → Kept → Talk → Type 0 where
  nothing_yet : (xs : List A) (ledger : List EntryView) (k : Kept)
      → ComesTo takes_as S c xs ledger k (silent ledger k)
  part_of_first : (x : A) (xs : List A) (ledger : List EntryView) (k : Kept) (t : Talk)
      → k.ended ≡ None → IsPartOfDue S c ledger (after_item k (Some (takes_as k x))) t
      → ComesTo takes_as S c (x ∷ xs) ledger k t
  after_first : (x : A) (xs : List A) (ledger : List EntryView) (k : Kept) (t : Talk)
      → k.ended ≡ None
      → ComesTo takes_as S c xs (due_of S c ledger k (takes_as k x)).ledger
      (due_of S c ledger k (takes_as k x)).kept t
      → ComesTo takes_as S c (x ∷ xs) ledger k
      (after_bytes (due_of S c ledger k (takes_as k x)).out t)

-- what arrives is taken as that
abbrev pub as_it_is : Kept → Arrival → Arrival
as_it_is k a = a

-- how far the whole conversation of a session with the client that sends these bytes may have come
abbrev pub ConversationComesTo : Setting → ℕ → List EntryView → List ℕ → Talk → Type 0
ConversationComesTo S c ledger bytes = ComesTo as_it_is S c (arrivals bytes) ledger begun

-- What was put out by a moment and the ledger then are beginnings of what they are in the whole.
pub record IsFront (so_far whole : Talk) : Type 0 where
  pub more : List EntryView
  pub rest : List ℕ
  pub grown : so_far.ledger ++ more ≡ whole.ledger
  pub due : so_far.out ++ rest ≡ whole.out

-- A conversation was broken off at some moment, and this holds of that moment.
pub record BreaksAt (whole : Talk) (Comes IsSo : Talk → Type 0) : Type 0 where
  pub so_far : Talk
  pub comes : Comes so_far
  pub is_so : IsSo so_far
  pub front : IsFront so_far whole

-- A conversation was broken off at some moment: the sink took a prefix of what was said by then, and the ledger is the one of that moment. So
-- the ledger has each commit whose answer was written, even in part. Both are prefixes of the whole.
abbrev pub BreaksOff : Talk → (Talk → Type 0) → (List EntryView → Type 0) → SinkView → SinkView
    → Type 0
BreaksOff whole Comes Stands old new =
    BreaksAt whole Comes (λ s. Stands s.ledger × PutsFront old new s.out)
