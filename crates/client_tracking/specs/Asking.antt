-- Several requests that are asked as one.
use Rattle.std.specs.Prelude.{◌≡◌, ◌⊎◌, ℕ, Bool, true, false, Option, Some, None, Result, Ok, Err, List}
use Rattle.wire.specs.declared.Version.{Version}
use Rattle.wire.specs.Versions.{hello_has_login}
use Rattle.messages.specs.View.{AuthView, RequestView}
use Rattle.client.specs.declared.SubmitFault.{SubmitFault}
use Rattle.client.specs.declared.SubmitFault.TheVariants as submit_fault
use Rattle.client.specs.Rest.{Rest, refuses, after_submit}
use Rattle.client.specs.Fits.{IsAccepted}
use Rattle.client_tracking.specs.declared.requests.Rows.{Rows}
use Rattle.client_tracking.specs.declared.requests.Rows.TheVariants as rows

-- A request was asked: it is accepted with this ordinal, or refused, and nothing has changed; want of memory aside by its first fault.
abbrev pub Asks : Rest → Rest → RequestView → Result ℕ SubmitFault → Type 0
Asks old new q (Ok n) = IsAccepted old q n × (new ≡ after_submit old q)
Asks old new q (Err submit_fault.Memory) = new ≡ old
Asks old new q (Err e) = (new ≡ old) × (refuses old.knows q ≡ Some e)

-- Two were asked, the second if the first is accepted; the first that is refused is told. If that is the second, the first waits.
abbrev pub AsksBoth : Rest → Rest → RequestView → RequestView → Result (ℕ × ℕ) SubmitFault → Type 0
AsksBoth old new p q (Ok n) =
    IsAccepted old p n.0 × (IsAccepted (after_submit old p) q n.1
    × (new ≡ after_submit (after_submit old p) q))
AsksBoth old new p q (Err e) =
    Asks old new p (Err e)
    ⊎ ((n : ℕ) × (IsAccepted old p n × Asks (after_submit old p) new q (Err e)))

-- One was asked, which stands for both.
abbrev pub AsksOne : Rest → Rest → RequestView → Result (ℕ × ℕ) SubmitFault → Type 0
AsksOne old new q (Ok n) = Asks old new q (Ok n.0) × (n.1 ≡ n.0)
AsksOne old new q (Err e) = Asks old new q (Err e)

-- HELLO carries the login; unknown before the version, when none is accepted
abbrev pub is_login_in_hello : Option Version → Bool
is_login_in_hello None = false
is_login_in_hello (Some v) = hello_has_login v

-- The name and the login were asked, in one request or in two.
abbrev pub AsksLogin : Bool → Rest → Rest → List ℕ → AuthView → Result (ℕ × ℕ) SubmitFault → Type 0
AsksLogin true old new agent auth r = AsksOne old new (RequestView.Hello agent (Some auth)) r
AsksLogin false old new agent auth r =
    AsksBoth old new (RequestView.Hello agent None) (RequestView.Logon auth) r

-- what is asked of a query's rows, as a request
abbrev pub rows_view : Rows → RequestView
rows_view (rows.Pull count) = RequestView.Pull count
rows_view (rows.Discard count) = RequestView.Discard count
