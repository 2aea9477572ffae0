-- Whom a gate lets in, and the name that its server tells.
use Rattle.std.specs.Prelude.{◌≡◌, ◌≤◌, ℕ, Bool, List, length, codes, refl}
use Rattle.std.specs.Str.{IsUtf8}
use Rattle.std.proofs.Common.{lit≤}
use Rattle.engine.specs.Limits.{max_agent}

-- a gate's test, and the name that a server with the gate tells
pub record Welcome : Type 0 where
  -- whether a principal with these credentials may come in, both as bytes
  pub accepts : List ℕ → List ℕ → Bool
  -- the server's name, in its answer to HELLO
  pub agent : List ℕ
  pub short : length agent ≤ max_agent
  pub text : IsUtf8 agent

-- the name of a server whose gate has no other
abbrev pub own_name : List ℕ
own_name = codes "BoltTable/1"

-- it is a text
pub own_text : IsUtf8 own_name
unfolding lib.Utf8.encode
own_text = (own_name, (refl, refl))

-- this test, and that name
abbrev pub under_own_name : (List ℕ → List ℕ → Bool) → Welcome
under_own_name accepts = record {
  accepts = accepts;
  agent = own_name;
  short = lit≤ tt;
  text = own_text;
}

-- a gate that lets in whom another does, and has this name
pub record IsNamed (other : Welcome) (agent : List ℕ) (named : Welcome) : Type 0 where
  pub lets_in : named.accepts ≡ other.accepts
  pub tells : named.agent ≡ agent
