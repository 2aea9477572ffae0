-- Servers of two kinds at one address: some keep tokens, in one shared ledger, and some keep none. A COMMIT may be
-- processed late, others may use the token at any time, and each attempt may write something else.
--
-- At a server that keeps tokens, of all transactions under the token one commits; a COMMIT with the same writes is
-- answered SUCCESS, and one with other writes a conflict. At a server that keeps none, each COMMIT that is processed
-- commits.
use Rattle.std.specs.Prelude.{◌≡◌, ◌≢◌, ◌≤◌, ◌⊎◌, ◌+◌, ℕ, suc, Bool, true, false, not, ◌&&◌, if◌then◌else◌, Some, List, [], ◌∷◌, ◌++◌, length}
use Rattle.decider.specs.declared.policy.Retry.TheVariants as retry
use Rattle.decider.specs.declared.policy.Before.TheVariants as before
use Rattle.decider.specs.declared.policy.Policy.{Policy}
use Rattle.decider.specs.declared.steps.TokenSupport.TheVariants as support
use Rattle.decider.specs.declared.steps.StepResult.{StepResult}
use Rattle.decider.specs.declared.steps.StepResult.TheVariants as result
use Rattle.decider.specs.declared.steps.Next.TheVariants as next
use Rattle.decider.specs.declared.fate.Fate.{Fate}
use Rattle.decider.specs.declared.fate.Fate.TheVariants as fate
use Rattle.decider.specs.Rules.{is_attempt, is_doubt, in_doubt, last_of, next_of, fate_of}
use Rattle.decider.specs.Attempts.{Attempt, HasNot, is_waiting}

-- A committed transaction in the ledger under the token: what it wrote, as a number, and whether it is one of the
-- caller's attempts.
pub record Entry : Type 0 where
  pub writes : ℕ
  pub mine : Bool

-- The state of all servers, and of the caller.
pub record Servers : Type 0 where
  -- the committed transactions under the token in the ledger, oldest first
  pub entries : List Entry
  -- how many of the caller's attempts have committed at servers that keep no tokens
  pub plain : ℕ
  -- the last attempt: its writes, whether its server keeps tokens, and how far it is
  pub writes : ℕ
  pub keeps : Bool
  pub attempt : Attempt
  -- the attempts whose COMMIT may yet be processed though the caller waits no longer: at servers that keep tokens, what
  -- they write; at the others, how many they are
  pub late : List ℕ
  pub late_plain : ℕ
  -- the reported results
  pub results : List StepResult

-- The caller sends an attempt with these writes, to a server that keeps tokens or not. Its COMMIT is processed while it
-- waits, and answered SUCCESS or a conflict; or later. Others commit under the token. The caller reports a result.
pub data Event : Type 0 where
  Send : ℕ → Bool → Event
  Commit : Event
  CommitPlain : Event
  Refuse : Event
  CommitLate : ℕ → Event
  CommitLatePlain : Event
  OthersWrite : ℕ → Event
  Report : StepResult → Event

-- an attempt of the caller
abbrev pub own : ℕ → Entry
own w = record { writes = w; mine = true }

-- a transaction of others
abbrev pub others : ℕ → Entry
others w = record { writes = w; mine = false }

-- in the ledger, a transaction under the token commits only if none has
abbrev pub put : Entry → List Entry → List Entry
put e [] = e ∷ []
put e (x ∷ xs) = x ∷ xs

-- one is committed, with these writes
abbrev pub Is : ℕ → List Entry → Type 0
Is w [] = ⊥
Is w (e ∷ []) = e.writes ≡ w
Is w (e ∷ x ∷ xs) = ⊥

-- one is committed, with other writes
abbrev pub IsOther : ℕ → List Entry → Type 0
IsOther w [] = ⊥
IsOther w (e ∷ []) = e.writes ≢ w
IsOther w (e ∷ x ∷ xs) = ⊥

-- it is one of them
abbrev pub Among : List ℕ → ℕ → Type 0
Among [] w = ⊥
Among (x ∷ xs) w = (x ≡ w) ⊎ Among xs w

-- how many of them are the caller's attempts
abbrev pub mine : List Entry → ℕ
mine [] = 0
mine (e ∷ es) = if e.mine then suc (mine es) else mine es

-- The results that the caller may report. An attempt is Committed or Conflict only if that was the answer. That it
-- never will commit is reported only if it has not, and then it is not processed later. A doubt may be reported at any
-- time, but as one of a server that keeps tokens only if the attempt was sent to such a server.
abbrev pub MayReport : Servers → StepResult → Type 0
MayReport s (result.Committed commit) = s.attempt ≡ Attempt.Done true
MayReport s result.Conflict = s.attempt ≡ Attempt.Done false
MayReport s (result.PermanentFailure ordinal) = HasNot s.attempt
MayReport s result.TransientFailure = HasNot s.attempt
MayReport s (result.InvalidRequest ordinal) = HasNot s.attempt
MayReport s result.NoCommitSent = HasNot s.attempt
MayReport s (result.InDoubt support.Supported) = s.keeps ≡ true
MayReport s (result.Marker m) = ⊥
MayReport s t = Unit {0}

-- the caller reported this result
abbrev pub reported : StepResult → Servers → Servers
reported t s = record s {
  attempt = if is_attempt t then Attempt.Idle else s.attempt;
  late = if (is_doubt retry.Never t && is_waiting s.attempt) && s.keeps then s.writes ∷ s.late else s.late;
  late_plain =
      if (is_doubt retry.Never t && is_waiting s.attempt) && not s.keeps then suc s.late_plain else s.late_plain;
  results = s.results ++ t ∷ [];
}

-- The premises of sending: it is the next step; after a greeting of a server that keeps tokens it is sent to such a
-- server; and with Tokens each server keeps tokens.
pub record MaySend (p : Policy) (s : Servers) (keeps : Bool) : Type 0 where
  pub idle : s.attempt ≡ Attempt.Idle
  pub is_next : next_of p s.results ≡ next.Attempt
  pub greeted : last_of s.results ≡ Some (result.Greeted support.Supported) → keeps ≡ true
  pub tokens : p.retry ≡ retry.Tokens → keeps ≡ true

-- one event leads from the first to the second
abbrev pub Step : Policy → Servers → Event → Servers → Type 0
Step p s (Event.Send w keeps) n =
    MaySend p s keeps × (n ≡ record s { writes = w; keeps = keeps; attempt = Attempt.Waiting })
Step p s Event.Commit n =
    (s.attempt ≡ Attempt.Waiting) × (s.keeps ≡ true) × Is s.writes (put (own s.writes) s.entries)
    × (n ≡ record s { entries = put (own s.writes) s.entries; attempt = Attempt.Done true })
Step p s Event.CommitPlain n =
    (s.attempt ≡ Attempt.Waiting) × (s.keeps ≡ false)
    × (n ≡ record s { plain = suc s.plain; attempt = Attempt.Done true })
Step p s Event.Refuse n =
    (s.attempt ≡ Attempt.Waiting) × (s.keeps ≡ true) × IsOther s.writes s.entries
    × (n ≡ record s { attempt = Attempt.Done false })
Step p s (Event.CommitLate w) n = Among s.late w × (n ≡ record s { entries = put (own w) s.entries })
Step p s Event.CommitLatePlain n =
    (left : ℕ) × (s.late_plain ≡ suc left) × (n ≡ record s { plain = suc s.plain; late_plain = left })
Step p s (Event.OthersWrite w) n = n ≡ record s { entries = put (others w) s.entries }
Step p s (Event.Report t) n = MayReport s t × (n ≡ reported t s)

-- these events lead from the first to the second
abbrev pub RunsTo : Policy → Servers → List Event → Servers → Type 0
RunsTo p s [] n = s ≡ n
RunsTo p s (e ∷ es) n = (m : Servers) × Step p s e m × RunsTo p m es n

-- The start. The ledger has at most one entry under the token. If the transaction was never sent, none is the caller's,
-- nothing has committed elsewhere, and nothing is late. If it is in doubt, an attempt of before may have committed, or
-- may yet: at most one of them at a server that keeps no tokens, and then none at the others; and with Tokens none at
-- such a server.
pub record Starts (p : Policy) (s : Servers) : Type 0 where
  pub idle : s.attempt ≡ Attempt.Idle
  pub no_results : s.results ≡ []
  pub once : length s.entries ≤ 1
  pub fresh : p.before ≡ before.Nothing → (s.late ≡ []) × (mine s.entries ≡ 0)
  pub fresh_plain : p.before ≡ before.Nothing → (s.plain ≡ 0) × (s.late_plain ≡ 0)
  pub apart : (s.plain + s.late_plain ≡ 0) ⊎ ((s.plain + s.late_plain ≡ 1) × (mine s.entries ≡ 0) × (s.late ≡ []))
  pub tokens : p.retry ≡ retry.Tokens → s.plain + s.late_plain ≡ 0

-- the last attempt has committed: in the ledger if its server keeps tokens, else at that server
abbrev pub HasCommitted : Bool → ℕ → List Entry → ℕ → Type 0
HasCommitted true w es n = Is w es
HasCommitted false w es n = n ≡ 1

-- The meaning of a fate. doubt: something is in doubt.
abbrev pub Means : Fate → Bool → Servers → Type 0
Means fate.Committed doubt s = HasCommitted s.keeps s.writes s.entries s.plain
Means fate.Conflict doubt s = IsOther s.writes s.entries × (doubt ≡ false → (mine s.entries ≡ 0) × (s.plain ≡ 0))
Means fate.Refused doubt s = (mine s.entries ≡ 0) × (s.plain ≡ 0)
Means fate.NotCommitted doubt s = (mine s.entries ≡ 0) × (s.plain ≡ 0)
Means fate.Unknown doubt s = Unit {0}

-- With Detect, Tokens or Never, a caller that makes each next step: of its attempts, at most one commits at all servers
-- together, and the fate is true at any moment. pending: an attempt is under way, at least from its sending to its
-- result. Committed: the ledger has one entry, with the last attempt's writes; or, if its server keeps no tokens, one
-- attempt has committed there. Conflict: the ledger has one entry with other writes, which is no attempt's unless
-- something is in doubt. Refused and NotCommitted: no attempt has committed.
abbrev pub FateAtServers : Type 0
FateAtServers =
    (p : Policy) (first last : Servers) (events : List Event) (pending : Bool) → p.retry ≢ retry.Marker
    → Starts p first → RunsTo p first events last → (pending ≡ false → last.attempt ≡ Attempt.Idle)
    → (length last.entries ≤ 1) × (mine last.entries + last.plain ≤ 1)
    × Means (fate_of p last.results pending) (in_doubt p last.results) last
