-- The phases that may follow the first of the requests that wait.
use Rattle.std.specs.Prelude.{◌≡◌, ℕ, Option, Some, List, [], ◌∷◌, map, take}
use Rattle.wire.specs.declared.Version.{Version}
use Rattle.messages.specs.declared.Request.{Request}
use Rattle.messages.specs.View.{request_view}
use Rattle.machine.specs.declared.Phase.{Phase}
use Rattle.machine.specs.Following.{possible}

-- at the version that is known, these phases may follow so many of the requests that wait
abbrev pub Follows : Option Version → Phase → ℕ → List Request → List Phase → Type 0
Follows o p n qs ps =
    (v : Version) → o ≡ Some v → possible v (p ∷ []) (take n (map request_view qs)) ≡ ps
