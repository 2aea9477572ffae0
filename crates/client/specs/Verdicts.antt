-- What an answer tells a client: the version, or the verdict on a request, the phase that it leads to, and what became of the request.
use Rattle.std.specs.Prelude.{ℕ, Bool, true, false, ◌&&◌, ◌||◌, if◌then◌else◌, codes, Option, Some, None, option_map, List, [], ◌∷◌}
use Rattle.std.specs.List.{list_any}
use Rattle.std.specs.Str.{bytes_eq}
use Rattle.packstream.specs.Tree.{Tree, boolean}
use Rattle.wire.specs.declared.Version.{Version}
use Rattle.wire.specs.declared.Wish.{Wish}
use Rattle.wire.specs.declared.Wish.TheVariants as wish
use Rattle.messages.specs.View.{RequestView, ResponseView}
use Rattle.machine.specs.declared.Phase.{Phase}
use Rattle.machine.specs.declared.Phase.TheVariants as phase
use Rattle.machine.specs.declared.Kind.{Kind}
use Rattle.machine.specs.declared.Verdict.{Verdict}
use Rattle.machine.specs.declared.Verdict.TheVariants as verdict
use Rattle.machine.specs.States.{phase_of, same_phase}
use Rattle.machine.specs.Asks.{kind_of, same_version, is_reset, is_goodbye}
use Rattle.machine.specs.Rows.{row_at}
use Rattle.machine.specs.Following.{commits, state_of}
use Rattle.client.specs.declared.heard.Outcome.{Outcome}
use Rattle.client.specs.declared.heard.Outcome.TheVariants as outcome

-- a row, by its cells; the summary of a request, by its ordinal, with the phase that it leads to and what became of the request
pub data Told : Type 0 where
  GotRow : List Tree → Told
  Got : ℕ → Phase → Outcome → ResponseView → Told

-- the versions that a client proposes
abbrev pub is_wished : Wish → Version → Bool
is_wished wish.Newest v = true
is_wished (wish.Only w) v = same_version w v

-- Ready, Streaming, TxReady and TxStreaming
abbrev pub serving : Phase → Bool
serving p = list_any (same_phase p)
    (phase.Ready ∷ phase.Streaming ∷ phase.TxReady ∷ phase.TxStreaming ∷ [])

-- the value `true`, and no other
abbrev pub is_yes : Tree → Bool
is_yes (boolean b) = b
is_yes t = false

-- the entry `has_more: true`; with any other value it counts as absent
abbrev pub says_more : List ℕ × Tree → Bool
says_more e = bytes_eq e.0 (codes "has_more") && is_yes e.1

-- one of the entries is `has_more: true`
abbrev pub has_more : List (List ℕ × Tree) → Bool
has_more metadata = list_any says_more metadata

-- what a response tells of the verdict; has_more stands for counts in part alone
abbrev pub verdict_of : Bool → ResponseView → Option Verdict
verdict_of part (ResponseView.Success metadata) =
    if has_more metadata then (if part then Some verdict.More else None) else Some verdict.Success
verdict_of part (ResponseView.Record cells) = None
verdict_of part ResponseView.Ignored = Some verdict.Ignored
verdict_of part (ResponseView.Failure code message) = Some verdict.Failure

-- the phase that an IGNORED leads to, if it is accepted; behind: a RESET waits behind the request
abbrev pub ignored_in : Phase → Kind → Bool → Option Phase
ignored_in p k behind =
    if is_reset k || is_goodbye k then None
    else (if same_phase p phase.Halted || (serving p && behind) then Some phase.Halted else None)

-- the phase that a summary leads to, if it is accepted
abbrev pub phase_accepted : Version → Phase → Kind → Bool → Verdict → Option Phase
phase_accepted v p k behind verdict.Ignored = ignored_in p k behind
phase_accepted v p k behind d = option_map phase_of (row_at v (state_of p) k d)

-- what became of a request of this kind, by the phase before its summary and by its verdict
abbrev pub outcome_of : Phase → Kind → Verdict → Outcome
outcome_of p k verdict.Success = if commits p k then outcome.Committed else outcome.Done
outcome_of p k verdict.More = outcome.Done
outcome_of p k verdict.Ignored = outcome.Ignored
outcome_of p k d = outcome.Refused

-- a RESET is among them
abbrev pub resets : List RequestView → Bool
resets qs = list_any (λ q. is_reset (kind_of q)) qs
