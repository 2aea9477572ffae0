-- Worlds one after the other over one ledger.
use Rattle.std.specs.Prelude.{◌≡◌, ℕ, Some, None, List, [], ◌∷◌, ◌++◌, slice_get}
use Rattle.wire.specs.declared.Wish.{Wish}
use Rattle.engine.specs.Views.{EntryView, Token}
use Rattle.engine.specs.Tokens.{under_token, TokensOnce}
use Rattle.client.specs.declared.Outcome.{Outcome}
use Rattle.server_session.specs.Session.{Setting, Change}
use Rattle.world.specs.Connections.{Connection, Ours}
use Rattle.world.specs.World.{World, ledger, Reached, IsLedger}
use Rattle.world.specs.Good.{Good, outcome, change, entries}

-- the ledger that the last of these worlds left, the last world first; first: the ledger before all of them
abbrev pub left : List EntryView → List World → List EntryView
left first [] = first
left first (w ∷ ws) = ledger w

-- Worlds one after the other, the last first: the server of each was made over the ledger that the one before left, wherever that one was
-- ended.
pub data Lived (S : Setting) (first : List EntryView) : List World → Type 0 where
  never : IsLedger first → Lived S first []
  again : (w : World) (ws : List World) → Lived S first ws → Reached S (left first ws) w
      → Lived S first (w ∷ ws)

-- A change that a client of a world reports committed, in a ledger that begins with that of the world: by its token the only entry of all;
-- without one the only entry of its request among those since the world began.
abbrev pub StandsIn : List EntryView → World → ℕ → ℕ → Change → Token → Type 0
StandsIn all w c i its (Some t) = under_token t all ≡ its.writes ∷ []
StandsIn all w c i its None = entries c i w.since ≡ its ∷ []

-- what holds of a connection of ours in one of the worlds, if the last left this ledger
pub record Holds (S : Setting) (all : List EntryView) (w : World) (c : ℕ) (k : Connection) : Type 0 where
  -- in its own world
  pub good : Good S w c k
  -- the entries before that world, those since, and those of later worlds, each together and in their order
  pub later : List EntryView
  pub parts : all ≡ (w.brought ++ w.since) ++ later
  -- what is reported committed stands
  pub committed : (i : ℕ) → outcome k i ≡ Some Outcome.Committed
      → StandsIn all w c i (change S w k i) (change S w k i).token

-- what clients of ours rely on after any worlds one after the other
abbrev pub ReliesOn : Type 0
ReliesOn = (S : Setting) (first : List EntryView) (ws : List World) → Lived S first ws
    → TokensOnce (left first ws)
    × ((n : ℕ) (w : World) → slice_get ws n ≡ Some w
    → (c : ℕ) (k : Connection) (wish : Wish) → slice_get w.conns c ≡ Some k → k.peer ≡ Ours wish
    → Holds S (left first ws) w c k)
