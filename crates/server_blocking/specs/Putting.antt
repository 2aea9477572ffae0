-- Writing what a session has said.
use Rattle.std.specs.Prelude.{◌≡◌, ℕ, List, [], Some, ◌⊎◌, Result, Ok, Err}
use Rattle.server.specs.Serving.{Live, Rest, on_live, with_kept}
use Rattle.streams.specs.declared.fault.StreamFault.{StreamFault}
use Rattle.server_blocking.specs.Conversing.{heard_out}
use Rattle.server_blocking.specs.Views.{SinkView, PutsBytes, PutsFront}

-- all that a session has said, and the session after it is taken out
abbrev pub said_by : Live → List ℕ × Live
said_by s = (s.kept.unsent, with_kept s (heard_out s.kept))

-- All of it was taken out and written. After a fault nothing was done, or all of it was taken out and a prefix was written.
abbrev pub Puts : {G : Type 0} → ℕ → Rest G → Rest G → SinkView → SinkView
    → Result (Unit {0}) StreamFault → Type 0
Puts conn r after old new (Ok done) =
    (out : List ℕ) × (on_live said_by conn r ≡ Some (out, after)) × PutsBytes old new out
Puts conn r after old new (Err fault) = ((after ≡ r) × PutsBytes old new [])
    ⊎ ((out : List ℕ) × (on_live said_by conn r ≡ Some (out, after)) × PutsFront old new out)
