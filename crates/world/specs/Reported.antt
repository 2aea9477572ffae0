-- What a report lends of a world.
use Rattle.std.specs.Prelude.{◌≡◌, ℕ, Option, Some, None, List, length, map, slice_get}
use Rattle.machine.specs.declared.State.{State}
use Rattle.engine.specs.Views.{EntryView}
use Rattle.server_session.specs.declared.Cause.{Cause}
use Rattle.server.specs.Serving as serving
use Rattle.world.specs.declared.report.Connection.{Connection as ConnectionTold}
use Rattle.world.specs.declared.report.Report.{Report as ReportLent}
use Rattle.world.specs.declared.report.Standing.{Standing as StandingTold}
use Rattle.world.specs.declared.report.Standing.TheVariants as standing_told
use Rattle.world.specs.Connections.{Connection}
use Rattle.world.specs.World.{World}
use Rattle.world.specs.Reports.{Standing, stands, has_ended, standing_of, wrote, summaries_told, outcomes_at_loss, waits, ordinals, standing}
use Rattle.world.specs.Views.{peer_of, wrote_of, read_of}
use Rattle.world.specs.Turns.{FitsWorld}

-- where a session stands by the report, as contracts see it
abbrev pub standing_seen : StandingTold → Standing
standing_seen (standing_told.Stands state) = stands state
standing_seen (standing_told.Ended cause) = has_ended cause

-- where a session stands, by the cause that its loss told, else by what the server answers
abbrev pub StandsBy : {G : Type 0} → Option Cause → ℕ → serving.Rest G → StandingTold → Type 0
StandsBy (Some cause) conn r told = standing_seen told ≡ has_ended cause
StandsBy None conn r told = (state : State) → serving.state_at conn r ≡ Some state
    → standing_seen told ≡ standing_of state (serving.cause_at conn r)

-- each list is the connection's; those that wait follow those that were read
pub record IsReport (k : Connection) (c : ConnectionTold) : Type 0 where
  pub peer : peer_of c.peer ≡ k.peer
  pub wrote : map wrote_of c.wrote.now ≡ wrote k
  pub read : map read_of c.read.now ≡ summaries_told k
  pub lost : c.lost.now ≡ outcomes_at_loss k
  pub waits : ordinals (length c.read.now) c.waits ≡ waits k
  pub standing : standing_seen c.standing ≡ standing k

-- what a report answers for a number: what is so of that connection; None if none was opened
abbrev pub Reports : World → ℕ → Option ConnectionTold → Type 0
Reports w conn None = slice_get w.conns conn ≡ None
Reports w conn (Some c) = (k : Connection) × (slice_get w.conns conn ≡ Some k) × IsReport k c

-- what is lent is a world's that fits this one
abbrev pub Lends : {E G : Type 0} → (E → List EntryView) → ReportLent E G → G → World → Type 0
Lends entries report gate w = FitsWorld entries report.world.now gate w
