-- What a client and a session make of the lines of a script, an exchange after each: what the client sends, what the session answers, and what
-- is printed of it.
use Rattle.std.specs.Prelude.{◌≡◌, ℕ, false, List, [], ◌++◌, length, take, drop, Option, Some, None}
use Rattle.std.specs.List.{fold}
use Rattle.std.specs.Option.{option_map_or}
use Rattle.messages.specs.View.{RequestView}
use Rattle.engine.specs.Views.{EntryView}
use Rattle.server_session.specs.Session.{Setting}
use Rattle.client.specs.declared.SubmitFault.{SubmitFault}
use Rattle.client.specs.Rest.{refuses, awaits}
use Rattle.server_blocking.specs.Conversing.{Talk, conversation}
use Rattle.cli_scripts.specs.Views.{ScriptRequestView}
use Rattle.cli_scripts.specs.Meant.{meant}
use Rattle.cli_output.specs.Names.{refusal_code}
use Rattle.cli_output.specs.Telling.{refused_line}
use Rattle.cli_sessions.specs.Talking.{Place, first_place, submitted, place_after, text_of}

-- where a client stands once a request is submitted: it is accepted, or refused
abbrev pub place_by : Option SubmitFault → Place → RequestView → Place
place_by None p q = submitted p q
place_by (Some why) p q = p

-- what is printed of a line with this number then: its refusal; want of memory is none
abbrev pub text_by : Option SubmitFault → ℕ → List ℕ
text_by None n = []
text_by (Some why) n = option_map_or (refused_line n) (refusal_code why) []

-- where a client stands once all that it has to send was taken out
abbrev pub all_sent : Place → Place
all_sent p = record {
  rest = record { wish = p.rest.wish; knows = p.rest.knows; item = p.rest.item; unsent = [] };
  version = p.version;
}

-- how far the two have come: where the client stands, all that it has sent, and what is printed
pub record Turns : Type 0 where
  pub place : Place
  pub sent : List ℕ
  pub text : List ℕ

-- before the first exchange
abbrev pub no_turns : Turns
no_turns = record { place = first_place; sent = []; text = [] }

-- what a line asks for, at the version that was heard
abbrev pub asked : Turns → ℕ × ScriptRequestView → RequestView
asked t l = meant t.place.version l.1

-- A line is submitted: its request is accepted, or refused, which is printed.
abbrev pub with_line : Turns → ℕ × ScriptRequestView → Turns
with_line t l = record {
  place = place_by (refuses t.place.rest.knows (asked t l)) t.place (asked t l);
  sent = t.sent;
  text = t.text ++ text_by (refuses t.place.rest.knows (asked t l)) l.0;
}

-- no answer is still to come; a GOODBYE has none
abbrev pub IsQuiet : Turns → Type 0
IsQuiet t = awaits t.place.rest.knows ≡ false

module _ (S : Setting) (conn : ℕ) (ledger : List EntryView) where
  -- what the session with this number does, over this ledger, with all that its client has sent
  abbrev pub talk_for : List ℕ → Talk
  talk_for sent = conversation S conn ledger sent

  -- what it puts out for more bytes, behind what it has put out for those before
  abbrev pub answer_to : List ℕ → List ℕ → List ℕ
  answer_to sent more = drop (length (talk_for sent).out) (talk_for (sent ++ more)).out

  -- what it puts out for all that its client has to send
  abbrev pub due : Turns → List ℕ
  due t = answer_to t.sent t.place.rest.unsent

  -- All that the client has to send was taken out; it has sent these bytes of it, and heard what the session answers to them.
  abbrev pub given : Turns → List ℕ → Turns
  given t bytes = record {
    place = place_after (all_sent t.place) (answer_to t.sent bytes);
    sent = t.sent ++ bytes;
    text = t.text ++ text_of (all_sent t.place) (answer_to t.sent bytes);
  }

  -- An exchange: the client sends all that it has to send, and hears all that the session answers.
  abbrev pub exchanged : Turns → Turns
  exchanged t = given t t.place.rest.unsent

  -- an exchange, and then a line is submitted
  abbrev pub next_turn : Turns → ℕ × ScriptRequestView → Turns
  next_turn t l = with_line (exchanged t) l

  -- Where the two stand once these lines are submitted: an exchange, in which the version is heard, and then a line, and so on. The last exchange
  -- is still to come.
  abbrev pub stage : List (ℕ × ScriptRequestView) → Turns
  stage lines = fold next_turn no_turns lines

  -- and after that
  abbrev pub turns_of : List (ℕ × ScriptRequestView) → Turns
  turns_of lines = exchanged (stage lines)

  -- After the version was heard, and after each of these lines, no answer is still to come.
  abbrev pub AreQuiet : List (ℕ × ScriptRequestView) → Type 0
  AreQuiet lines = (n : ℕ) → IsQuiet (turns_of (take n lines))
