-- What a session puts out for what arrives of its client, in turn: whole conversations, however they are cut.
use Rattle.std.specs.Prelude.{ℕ, zero, suc, List, [], ◌∷◌, ◌++◌, length, Option, Some, None}
use Rattle.wire.specs.Framing.{Opened}
use Rattle.messages.specs.Arrivals.{Arrival, arrivals}
use Rattle.engine.specs.Views.{EntryView}
use Rattle.server_session.specs.declared.kinds.Cause.{Cause}
use Rattle.server_session.specs.Session.{Setting}
use Rattle.server_session.specs.Rest.{Kept, begun, Done, Idle, Full, WroteRow, Wrote, Ended, Step, work_kept, after_item, commit_entries}
use Rattle.server.specs.Serving.{Rest, replace, without}

-- what was put out, the ledger then, and what the session keeps then
pub record Talk : Type 0 where
  pub out : List ℕ
  pub ledger : List EntryView
  pub kept : Kept

-- nothing is put out, and the ledger and the session stay as they are
abbrev pub silent : List EntryView → Kept → Talk
silent ledger k = record { out = []; ledger = ledger; kept = k }

-- after bytes that were put out before
abbrev pub after_bytes : List ℕ → Talk → Talk
after_bytes front t = record { out = front ++ t.out; ledger = t.ledger; kept = t.kept }

-- all that was said is taken out
abbrev pub heard_out : Kept → Kept
heard_out k = record k { unsent = [] }

-- What a step makes, and what follows it: nothing if it is idle or finds no room, or the session has ended.
abbrev pub step_then : ℕ → ℕ → List EntryView → Step → Done → (List EntryView → Kept → Talk) → Talk
step_then c first ledger d (WroteRow row) more =
    after_bytes d.kept.unsent (more (ledger ++ commit_entries c first d.commit) (heard_out d.kept))
step_then c first ledger d (Wrote x) more =
    after_bytes d.kept.unsent (more (ledger ++ commit_entries c first d.commit) (heard_out d.kept))
step_then c first ledger d Idle more = silent ledger d.kept
step_then c first ledger d Full more = silent ledger d.kept
step_then c first ledger d (Ended cause) more = silent ledger d.kept

-- so many steps at most, each put out before the next
abbrev pub steps : Setting → ℕ → ℕ → List EntryView → Kept → Talk
steps S c zero ledger k = silent ledger k
steps S c (suc n) ledger k =
    let d = work_kept S c ledger k k.ended in
    step_then c k.first ledger d d.answer (steps S c n)

-- how many steps one that waits may take: a row each, and its summary or end
abbrev pub steps_due : List Arrival → ℕ → ℕ
steps_due [] rows = 0
steps_due (x ∷ xs) rows = suc rows

-- all that is unsent, and then all that is due
abbrev pub talk_of_due : Setting → ℕ → List EntryView → Kept → Talk
talk_of_due S c ledger k =
    after_bytes k.unsent (steps S c (steps_due k.waiting (length k.result.rows)) ledger
    (heard_out k))

-- nothing follows an end
abbrev pub unless_ended : Option Cause → Talk → Talk → Talk
unless_ended (Some cause) over more = over
unless_ended None over more = more

-- a conversation, and after it what follows from the ledger and the session that it leaves
abbrev pub talk_then : Talk → (List EntryView → Kept → Talk) → Talk
talk_then t more = after_bytes t.out (more t.ledger t.kept)

-- Each that arrives is taken, and all that it makes due is put out before the next is taken.
abbrev pub talk_of_arrivals : Setting → ℕ → List Arrival → List EntryView → Kept → Talk
talk_of_arrivals S c [] ledger k = silent ledger k
talk_of_arrivals S c (x ∷ xs) ledger k =
    unless_ended k.ended (silent ledger k)
    (talk_then (talk_of_due S c ledger (after_item k (Some x))) (talk_of_arrivals S c xs))

-- the whole conversation of a session with the client that sends these bytes
abbrev pub conversation : Setting → ℕ → List EntryView → List ℕ → Talk
conversation S c ledger bytes = talk_of_arrivals S c (arrivals bytes) ledger begun

module _ {G : Type 0} where
  -- a server with such a session in its place, over this ledger
  abbrev pub with_talk : Rest G → ℕ → Opened → List EntryView → Kept → Rest G
  with_talk r conn u ledger k =
      record {
        sessions = replace conn (record { conn = conn; kept = k; unfinished = u })
            r.sessions;
        next = r.next;
        ledger = ledger;
        gate = r.gate;
      }

  -- the same without the session
  abbrev pub without_talk : Rest G → ℕ → List EntryView → Rest G
  without_talk r conn ledger =
      record { sessions = without conn r.sessions; next = r.next; ledger = ledger; gate = r.gate }
