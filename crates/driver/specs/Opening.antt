-- What opens a connection.
use Rattle.std.specs.Prelude.{◌≡◌, ℕ, Some, Result, Ok, Err, List}
use Rattle.messages.specs.View.{AuthView}
use Rattle.client_tracking.specs.Asking.{is_login_in_hello}
use Rattle.driver.specs.declared.breaks.Break.{Break}
use Rattle.driver.specs.declared.faults.Fault.{Fault}
use Rattle.driver.specs.declared.faults.Fault.TheVariants as fault
use Rattle.driver.specs.Stands.{Place}
use Rattle.driver.specs.Exchanges.{Exchanges}
use Rattle.driver.specs.Pipelines.{Says}
use Rattle.driver.specs.Requests.{greeting}

-- Behind the version answer, the greeting of that version; where that broke off, why.
abbrev pub Greets : Place → Place → List ℕ → AuthView → Result (Unit {0}) Break → Result (Unit {0}) Fault → Type 0
Greets heard to agent auth (Ok u) result =
    Says heard to (greeting (is_login_in_hello heard.stand.rest.knows.version) agent auth) result
Greets heard to agent auth (Err why) result = (to ≡ heard) × (result ≡ Err (fault.Broken (Some why)))

-- The version is heard, and then the greeting is asked.
pub record Opens (from to : Place) (agent : List ℕ) (auth : AuthView) (result : Result (Unit {0}) Fault)
    : Type 0 where
  pub heard : Place
  pub broken : Result (Unit {0}) Break
  pub hears : Exchanges from heard broken
  pub greets : Greets heard to agent auth broken result
