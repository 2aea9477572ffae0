-- What a whole conversation does to a server and to a sink, with or without a fault.
use Rattle.std.specs.Prelude.{◌≡◌, ◌⊎◌, ℕ, List, ◌++◌, Option, None, IsSome, Result, Ok, Err}
use Rattle.std.specs.Io.KnownBytes.{Appends, Consumes, IsAtEnd}
use Rattle.wire.specs.Framing.{Opened}
use Rattle.engine.specs.Views.{EntryView}
use Rattle.server_session.specs.declared.kinds.Cause.{Cause}
use Rattle.server_session.specs.Session.{Setting}
use Rattle.server.specs.Serving.{cause_or, Rest}
use Rattle.streams.specs.declared.fault.StreamFault.{StreamFault}
use Rattle.streams.specs.declared.fault.StreamFault.TheVariants as stream_fault
use Rattle.server_blocking.specs.Conversing.{Talk, conversation, with_talk, without_talk}
use Rattle.server_blocking.specs.Breaking.{ConversationComesTo, BreaksOff}
use Rattle.server_blocking.specs.Settling.{StandsOver}
use Rattle.server_blocking.specs.Views.{SourceView, SinkView, GivesBytes, PutsBytes}

module _ {G : Type 0} (r : Rest G) (conn : ℕ) (S : Setting) where
  -- what the session does with these bytes of its client
  abbrev pub talk_for : List ℕ → Talk
  talk_for bytes = conversation S conn r.ledger bytes

  -- It was broken off at some moment: the sink took a prefix of what was said by then, and the ledger is the one of that moment.
  abbrev pub IsBrokenOff : List ℕ → (List EntryView → Type 0) → SinkView → SinkView → Type 0
  IsBrokenOff bytes Stands old new =
      BreaksOff (talk_for bytes) (ConversationComesTo S conn r.ledger bytes) Stands old new

  -- It is the client's turn: the session goes on after the bytes that were read, and the sink took all that they make due.
  pub record IsTurn (left left_now old taken : Option (List ℕ)) : Type 0 where
    pub read : List ℕ
    pub input : Consumes left left_now read
    pub goes_on : (talk_for read).kept.ended ≡ None
    pub answered : Appends old taken (talk_for read).out

  -- The reading ended with the input or with the session.
  abbrev pub EndsReading : List ℕ → Option (List ℕ) → Type 0
  EndsReading read left_now = IsAtEnd left_now ⊎ IsSome (talk_for read).kept.ended

  module _ (Now : Rest G → Type 0) (from to : SourceView) (old new : SinkView) where
    -- The sink took all that is due for the bytes that the source gave, and the session is as they leave it.
    pub record ConversesWhole : Type 0 where
      pub read : List ℕ
      pub unfinished : Opened
      pub input : GivesBytes from to read
      pub ends : EndsReading read to.left
      pub now : Now (with_talk r conn unfinished (talk_for read).ledger (talk_for read).kept)
      pub took : PutsBytes old new (talk_for read).out

    -- A fault came: the conversation for the bytes that the source gave was broken off. If the source failed, all that they make due was done
    -- and written.
    pub record ConversesFront (fault : StreamFault) : Type 0 where
      pub read : List ℕ
      pub input : GivesBytes from to read
      pub broken : IsBrokenOff read (StandsOver r conn Now) old new
      pub whole : fault ≡ stream_fault.ReadFailed
          → (broken.so_far.ledger ≡ (talk_for read).ledger) × PutsBytes old new (talk_for read).out

    -- all of it went well, or a fault came
    abbrev pub Converses : Result (Unit {0}) StreamFault → Type 0
    Converses (Ok done) = ConversesWhole
    Converses (Err fault) = ConversesFront fault

    -- The sink took all that is due for the bytes that the source gave, the cause is that of the end to which they lead, and the session is gone.
    pub record ServesWhole (cause : Cause) : Type 0 where
      pub read : List ℕ
      pub input : GivesBytes from to read
      pub ends : EndsReading read to.left
      pub ended : cause ≡ cause_or (talk_for read).kept.ended
      pub now : Now (without_talk r conn (talk_for read).ledger)
      pub took : PutsBytes old new (talk_for read).out

    -- A fault came: the conversation for the bytes that the source gave was broken off, and the session is gone. If the source failed, all that
    -- they make due was done and written.
    pub record ServesFront (fault : StreamFault) : Type 0 where
      pub read : List ℕ
      pub input : GivesBytes from to read
      pub broken : IsBrokenOff read (λ ledger. Now (without_talk r conn ledger)) old new
      pub whole : fault ≡ stream_fault.ReadFailed
          → (broken.so_far.ledger ≡ (talk_for read).ledger) × PutsBytes old new (talk_for read).out

    -- all of it went well, or a fault came
    abbrev pub Serves : Result Cause StreamFault → Type 0
    Serves (Ok cause) = ServesWhole cause
    Serves (Err fault) = ServesFront fault

-- The session is given up: the others are as before, so is the next number, and the ledger has grown by some entries, or by none.
abbrev pub LeavesOthers : {G : Type 0} → Rest G → ℕ → (Rest G → Type 0) → Type 0
LeavesOthers r conn Now = (more : List EntryView) × Now (without_talk r conn (r.ledger ++ more))
