-- What is said of the reason for which a server over a file ends.
use Rattle.std.specs.Prelude.{◌≡◌, ◌⊎◌, ℕ, List, [], ◌∷◌, ◌++◌, codes}
use Rattle.std.specs.Fmt.{decimal}
use Rattle.engine_sqlite.specs.declared.fault.OpenFault.{OpenFault}
use Rattle.engine_sqlite.specs.declared.fault.OpenFault.TheVariants.{Database, OtherTables, NoLedger, Memory}
use Rattle.cli_output.specs.Escaping.{escaped}
use Rattle.keeping.specs.declared.reasons.Reason.{Reason}
use Rattle.keeping.specs.declared.reasons.Reason.TheVariants as reason

-- what is said of a ledger that isn't taken; of an error of the database, its own words
abbrev pub IsSaidOfFault : OpenFault → List ℕ → Type 0
IsSaidOfFault (Database e) words = (own : List ℕ) × (words ≡ codes "the database: " ++ own)
IsSaidOfFault OtherTables words = words ≡ codes "the database holds another thing than a ledger"
IsSaidOfFault (NoLedger row) words = words ≡ codes "the database holds no ledger, at row " ++ decimal row
IsSaidOfFault Memory words = words ≡ codes "out of memory"

-- what is said of a reason; of a file that isn't opened and of a port that isn't had, the system's words
abbrev pub IsSaidOf : Reason → List ℕ → Type 0
IsSaidOf (reason.Unopened e) words = Unit {0}
IsSaidOf (reason.Unread fault) words = IsSaidOfFault fault words
IsSaidOf (reason.Port e) words = (own : List ℕ) × (words ≡ codes "the port: " ++ own)
IsSaidOf reason.DiskFailed words = words ≡ codes "the disk failed; start the server again"
IsSaidOf reason.OutputFailed words = words ≡ codes "standard output failed"
IsSaidOf reason.Memory words = words ≡ codes "out of memory"
IsSaidOf reason.NoConnection words = words ≡ codes "no connection comes any more"

-- The line that says why the server of a file ends; or that no memory is left to say it.
abbrev pub IsLineOf : List ℕ → Reason → List ℕ → Type 0
IsLineOf file reason line = (line ≡ codes "out of memory" ++ 10 ∷ [])
    ⊎ ((words : List ℕ) × IsSaidOf reason words × (line ≡ escaped file ++ codes ": " ++ words ++ 10 ∷ []))

-- What the database holds isn't taken as a ledger.
abbrev pub IsUnread : Reason → Type 0
IsUnread (reason.Unread fault) = Unit {0}
IsUnread (reason.Unopened e) = ⊥
IsUnread (reason.Port e) = ⊥
IsUnread reason.DiskFailed = ⊥
IsUnread reason.OutputFailed = ⊥
IsUnread reason.Memory = ⊥
IsUnread reason.NoConnection = ⊥
