-- The effects of the parts of a conversation on a server and a sink, with or without a fault.
use Rattle.std.specs.Prelude.{◌≡◌, ◌≤◌, ℕ, length, Bool, true, List, [], ◌∷◌, ◌++◌, take, Option, Some, None, IsSome, ◌⊎◌, Result, Ok, Err}
use Rattle.std.specs.Io.KnownBytes.{Appends}
use Rattle.streams.specs.Moving.{Grows as HasGrown}
use Rattle.wire.specs.Reader.{state}
use Rattle.wire.specs.Framing.{Item, Opened, at_server, items_received}
use Rattle.messages.specs.Arrivals.{Arrival, Asked, Unread, TooLong}
use Rattle.engine.specs.Views.{EntryView}
use Rattle.server_session.specs.declared.kinds.Cause.{Cause}
use Rattle.server.specs.declared.server.Server.{Server}
use Rattle.server.specs.declared.kinds.Took.{Took}
use Rattle.server_session.specs.declared.kinds.Worked.{Worked}
use Rattle.server_session.specs.declared.kinds.Worked.TheVariants as worked
use Rattle.server_session.specs.declared.kinds.What.{What}
use Rattle.server_session.specs.declared.kinds.What.TheVariants as what
use Rattle.server_session.specs.Session.{Setting}
use Rattle.server_session.specs.Rest.{Kept, begun, after_item, version_of}
use Rattle.server.specs.Feeding.{arrives}
use Rattle.server.specs.Serving.{Rest, find}
use Rattle.server.specs.Views.{Fits}
use Rattle.streams.specs.declared.fault.StreamFault.{StreamFault}
use Rattle.streams.specs.declared.fault.StreamFault.TheVariants.{ReadFailed, WriteFailed, Memory}
use Rattle.server_blocking.specs.declared.due.Next.{Next}
use Rattle.server_blocking.specs.declared.due.Next.TheVariants as next
use Rattle.server_blocking.specs.declared.intake.Taken.{Taken}
use Rattle.server_blocking.specs.declared.liveness.Liveness.{Liveness}
use Rattle.server_blocking.specs.declared.liveness.Liveness.TheVariants.{Open, Over}
use Rattle.server_blocking.specs.Conversing.{Talk, silent, steps, steps_due, talk_of_due, unless_ended, talk_then, with_talk}
use Rattle.server_blocking.specs.Breaking.{BreaksAt, BreaksOff, ComesTo}
use Rattle.server_blocking.specs.Views.{SinkView, PutsBytes}

-- a stream is reported as failed only if it has failed
abbrev pub IsDueTo : StreamFault → Bool → Bool → Type 0
IsDueTo ReadFailed input output = input ≡ true
IsDueTo WriteFailed input output = output ≡ true
IsDueTo Memory input output = Unit {0}

-- a session with this number lives
abbrev pub IsLive : {E G : Type 0} → (E → List EntryView) → ℕ → Server E G → Type 0
IsLive {G = G} entries conn s = (r : Rest G) × Fits entries s r × IsSome (find conn r.sessions)

-- a session's liveness: over if its end has a cause, else open
abbrev pub liveness_of : Option Cause → Liveness
liveness_of None = Open
liveness_of (Some cause) = Over

-- the action after a step with this result
abbrev pub next_of : Worked → Next
next_of worked.Row = next.Step
next_of worked.Full = next.Room
next_of _ = next.Rest

-- a session's liveness after it took bytes with this result; none if a step may be due
abbrev pub rest_after : What → Option Liveness
rest_after what.Part = Some Open
rest_after what.Noop = Some Open
rest_after (what.Handshake (Some version)) = Some Open
rest_after (what.Handshake None) = Some Over
rest_after what.BadMagic = Some Over
rest_after _ = None

-- the liveness, or the first fault of the two if there was one
abbrev pub taken_and_put : Result Liveness StreamFault → Result (Unit {0}) StreamFault
    → Result Liveness StreamFault
taken_and_put (Ok liveness) (Ok done) = Ok liveness
taken_and_put (Ok liveness) (Err fault) = Err fault
taken_and_put (Err fault) put = Err fault

module _ {G : Type 0} where
  -- A step was done, and this is the action after it; or nothing was done.
  abbrev pub Works : (Rest G → Option (Worked × Rest G)) → Rest G → Rest G
      → Result Next StreamFault → Type 0
  Works work r after (Ok next) =
      (w : Worked) × (work r ≡ Some (w, after)) × (next ≡ next_of w)
  Works work r after (Err fault) = after ≡ r

  -- A piece was fed with this result; or none of its bytes were used; or nothing was done.
  abbrev pub Feeds : (Rest G → Option (Took × Rest G)) → Rest G → Rest G → Result Took StreamFault
      → Type 0
  Feeds feed r after (Ok took) = feed r ≡ Some (took, after)
  Feeds feed r after (Err fault) = (after ≡ r)
      ⊎ ((took : Took) × (feed r ≡ Some (took, after)) × (took.used ≡ 0))

-- one at most waits, and it isn't what opens a stream
abbrev pub IsPlaced : List Arrival → Type 0
IsPlaced [] = Unit {0}
IsPlaced (Asked q ∷ []) = Unit {0}
IsPlaced (Unread e ∷ []) = Unit {0}
IsPlaced (TooLong ∷ []) = Unit {0}
IsPlaced _ = ⊥

-- how many steps are due at most
abbrev pub due : Kept → ℕ
due k = steps_due k.waiting (length k.result.rows)

-- a talk, and after it all that is due
abbrev pub settled : Setting → ℕ → Talk → Talk
settled S c t = talk_then t (steps S c (due t.kept))

-- a talk, and after it some of what is due
abbrev pub IsPartSettled : Setting → ℕ → Talk → Talk → Type 0
IsPartSettled S c t s = (n : ℕ) × (s ≡ talk_then t (steps S c n))

-- what a session takes a whole item of the bytes as
abbrev pub as_item : Kept → Item → Arrival
as_item k x = arrives (version_of k) x

-- the same conversation by the whole items of the bytes
abbrev pub item_talk : Setting → ℕ → List Item → List EntryView → Kept → Talk
item_talk S c [] ledger k = silent ledger k
item_talk S c (x ∷ xs) ledger k =
    unless_ended k.ended (silent ledger k)
    (talk_then (talk_of_due S c ledger (after_item k (Some (as_item k x)))) (item_talk S c xs))

-- A sink took a prefix of the output. The session buffers the bytes after the prefix, and the rest is lost.
pub record IsPartOut (Took : List ℕ → Type 0) (unsent out : List ℕ) : Type 0 where
  pub gone : List ℕ
  pub lost : List ℕ
  pub parts : gone ++ (unsent ++ lost) ≡ out
  pub took : Took gone

module _ {G : Type 0} (r : Rest G) (conn : ℕ) where
  -- The session is in some state, over this ledger.
  pub record StandsOver (Now : Rest G → Type 0) (ledger : List EntryView) : Type 0 where
    pub unfinished : Opened
    pub kept : Kept
    pub now : Now (with_talk r conn unfinished ledger kept)

  -- The session is in some state, the others are as before, and the ledger has grown by some entries, or by none.
  pub record Grows (Now : Rest G → Type 0) : Type 0 where
    pub unfinished : Opened
    pub kept : Kept
    pub more : List EntryView
    pub now : Now (with_talk r conn unfinished (r.ledger ++ more) kept)

  -- The session is as the talk leaves it, but it still buffers the last bytes of the output. The sink took those before.
  pub record Holds (u : Opened) (t : Talk) (Now : Rest G → Type 0) (before taken : SinkView)
      : Type 0 where
    pub gone : List ℕ
    pub held : List ℕ
    pub parts : gone ++ held ≡ t.out
    pub took : PutsBytes before taken gone
    pub now : Now (with_talk r conn u t.ledger (record t.kept { unsent = held }))

  -- The session is in some state over the talk's ledger, and buffers a part of the output. The sink took a prefix of it.
  pub record HoldsPart (Now : Rest G → Type 0) (before taken : SinkView) (t : Talk) : Type 0 where
    pub unfinished : Opened
    pub kept : Kept
    pub grows : IsPartOut (HasGrown before.put taken.put) kept.unsent t.out
    pub known : IsPartOut (Appends before.taken taken.taken) kept.unsent t.out
    pub now : Now (with_talk r conn unfinished t.ledger kept)

  -- All that was due is done, and the session is in the state that this liveness says.
  pub record SettlesWhole (u : Opened) (t : Talk) (Now : Rest G → Type 0)
      (before taken : SinkView) (liveness : Liveness) : Type 0 where
    pub holds : Holds u t Now before taken
    pub stands : liveness ≡ liveness_of t.kept.ended

  -- All that is due after a talk was done, or a fault came.
  abbrev pub Settles : Opened → Talk → Setting → (Rest G → Type 0) → SinkView
      → SinkView → Result Liveness StreamFault → Type 0
  Settles u t S Now before taken (Ok liveness) =
      SettlesWhole u (settled S conn t) Now before taken liveness
  Settles u t S Now before taken (Err fault) =
      BreaksAt (settled S conn t) (IsPartSettled S conn t) (HoldsPart Now before taken)

  -- Some of what is due after a talk was done, and the rest follows from what the session keeps.
  pub record GoesOn (u : Opened) (t : Talk) (S : Setting) (Now : Rest G → Type 0)
      (before taken : SinkView) : Type 0 where
    pub most : ℕ
    pub so_far : Talk
    pub follows : settled S conn t ≡ talk_then so_far (steps S conn most)
    pub comes : (n : ℕ) → IsPartSettled S conn t (talk_then so_far (steps S conn n))
    pub sent : so_far.kept.unsent ≡ []
    pub placed : IsPlaced so_far.kept.waiting
    pub enough : due so_far.kept ≤ most
    pub holds : Holds u so_far Now before taken

  -- One more step was done, and the rest follows; or nothing is due, and the session has this liveness; or a fault came.
  abbrev pub Steps : Opened → Talk → Setting → (Rest G → Type 0) → SinkView
      → SinkView → Result (Option Liveness) StreamFault → Type 0
  Steps u t S Now before taken (Ok None) = GoesOn u t S Now before taken
  Steps u t S Now before taken (Ok (Some liveness)) =
      SettlesWhole u (settled S conn t) Now before taken liveness
  Steps u t S Now before taken (Err fault) =
      BreaksAt (settled S conn t) (IsPartSettled S conn t) (HoldsPart Now before taken)

  module _ (S : Setting) where
    -- the conversation for these bytes of the client
    abbrev pub told_by : List ℕ → Talk
    told_by up = item_talk S conn (items_received up) r.ledger begun

    -- how far it may have come
    abbrev pub told_to : List ℕ → Talk → Type 0
    told_to up = ComesTo as_item S conn (items_received up) r.ledger begun

    -- A fault came during it.
    abbrev pub BreaksIn : List ℕ → (Rest G → Type 0) → SinkView → SinkView → Type 0
    BreaksIn up Now before new =
        BreaksOff (told_by up) (told_to up) (StandsOver Now) before new

    -- the server and the sink are as it has them
    abbrev pub Stands : (Rest G → Type 0) → SinkView → SinkView → List ℕ → Type 0
    Stands Now before new up =
        Now (with_talk r conn (state at_server at_server.start up) (told_by up).ledger
        (told_by up).kept) × PutsBytes before new (told_by up).out

    -- a server and a sink after these bytes, while the session still buffers the last bytes of the output
    abbrev pub HoldsAfter : (Rest G → Type 0) → SinkView → SinkView → List ℕ → Type 0
    HoldsAfter Now before taken up =
        Holds (state at_server at_server.start up) (told_by up) Now before taken

    -- A fault came during it, and the session buffers a part of the output.
    abbrev pub BreaksHolding : (Rest G → Type 0) → SinkView → SinkView → List ℕ
        → Type 0
    BreaksHolding Now before taken up =
        BreaksAt (told_by up) (told_to up) (HoldsPart Now before taken)

    -- So many bytes of a piece were taken, to the end of an item; or a fault came.
    abbrev pub TakesOne : (Rest G → Type 0) → SinkView → SinkView → List ℕ → List ℕ
        → Result Taken StreamFault → Type 0
    TakesOne Now before taken up piece (Ok t) =
        HoldsAfter Now before taken (up ++ take t.used piece)
        × (t.liveness ≡ liveness_of (told_by (up ++ take t.used piece)).kept.ended)
    TakesOne Now before taken up piece (Err fault) = BreaksHolding Now before taken (up ++ piece)

    -- A beginning of a piece was taken, after which this is so, and with it the session ended.
    pub record TakesFront (IsSo : List ℕ → Type 0) (up piece : List ℕ) : Type 0 where
      pub front : List ℕ
      pub rest : List ℕ
      pub parts : front ++ rest ≡ piece
      pub stands : IsSo (up ++ front)
      pub over : IsSome (told_by (up ++ front)).kept.ended

    -- A piece was taken whole, or up to the end of the session, and this is so after it.
    abbrev pub TakesUp : (List ℕ → Type 0) → List ℕ → List ℕ → Liveness → Type 0
    TakesUp IsSo up piece Open =
        IsSo (up ++ piece) × ((told_by (up ++ piece)).kept.ended ≡ None)
    TakesUp IsSo up piece Over = TakesFront IsSo up piece

    -- A piece was taken so, and the session buffers the last bytes of the output; or a fault came.
    abbrev pub TakesItems : (Rest G → Type 0) → SinkView → SinkView → List ℕ → List ℕ
        → Result Liveness StreamFault → Type 0
    TakesItems Now before taken up piece (Ok liveness) =
        TakesUp (HoldsAfter Now before taken) up piece liveness
    TakesItems Now before taken up piece (Err fault) = BreaksHolding Now before taken (up ++ piece)

    -- A piece was taken so, and all of it was put out; or a fault came.
    abbrev pub TakesPiece : (Rest G → Type 0) → SinkView → SinkView → List ℕ → List ℕ
        → Result Liveness StreamFault → Type 0
    TakesPiece Now before new up piece (Ok liveness) =
        TakesUp (Stands Now before new) up piece liveness
    TakesPiece Now before new up piece (Err fault) = BreaksIn (up ++ piece) Now before new

-- From any rest in which it lived, the session lives on: the others are as before, and the ledger has at most grown.
abbrev pub LivesOn : {G : Type 0} → ℕ → (Rest G → Type 0) → (Rest G → Type 0) → Type 0
LivesOn {G = G} conn Old Now = (r : Rest G) → Old r → IsSome (find conn r.sessions)
    → Grows r conn Now

-- What has grown from any rest in which the session lived has grown from it still.
abbrev pub GrowsOn : {G : Type 0} → ℕ → (Rest G → Type 0) → (Rest G → Type 0) → Type 0
GrowsOn {G = G} conn Old Now = (r : Rest G) → IsSome (find conn r.sessions) → Grows r conn Old
    → Grows r conn Now
