use Rattle.std.proofs.Common.{◌≡◌, refl, sym, ◌∙◌, ap, subst, inl, inr, ℕ, List, Option, Some, None, Ok, Err, unwrap_or}
use Rattle.wire.specs.declared.Version.{Version}
use Rattle.wire.specs.declared.Version.TheVariants.{V51}
use Rattle.wire.specs.Prelude.{Noop, TooBig}
use Rattle.messages.specs.declared.MsgFault.{MsgFault}
use Rattle.messages.specs.Prelude.{response_view, response_of, Strange}
use Rattle.client.specs.Prelude.{heard_response, heard_message, plain, came_in}
use Rattle.client.proofs.data.came_of.Goals as goal

-- what can't be read is strange, as is all before a version
unread_is : (o : Option Version) (b : List ℕ) (e : MsgFault) → response_of (unwrap_or o V51) b ≡ Err e → Strange ≡ plain (heard_message o b)
unread_is None b e h = refl
unread_is (Some v) b e h = sym (ap (λ r. plain (heard_response r)) h)

pub returns-in-Nothing : goal.returns-in-Nothing
returns-in-Nothing c = λ item is.
    elim c.in-Nothing.is [
      | inl e ↦ let none : item ≡ None = rw e at is in sym (ap (came_in c.args.version) none)
      | inr e ↦ let noop : item ≡ Some Noop = rw e at is in sym (ap (came_in c.args.version) noop)
    ]

pub returns-in-Some : goal.returns-in-Some
returns-in-Some c = λ item is.
    let h = rw c.in-Message.is at is in
    sym (ap (came_in c.args.version) h.1 ∙ ap (λ o. plain (heard_message o h.0)) c.in-Some.is
    ∙ ap (λ r. plain (heard_response r)) (subst (λ o. response_of (unwrap_or o V51) h.0 ≡ Ok (response_view c.in-Message.response)) c.in-Some.is h.2))

pub returns-in-None : goal.returns-in-None
returns-in-None c = λ item is.
    let h = rw c.in-Message.is at is in
    sym (ap (came_in c.args.version) h.1 ∙ ap (λ o. plain (heard_message o h.0)) c.in-None.is)

pub returns-in-Bad : goal.returns-in-Bad
returns-in-Bad c = λ item is.
    let h = rw c.in-Bad.is at is in
    unread_is c.args.version h.0 c.in-Bad.field-0 (h.2 h.3) ∙ sym (ap (came_in c.args.version) h.1)

pub returns-in-TooBig : goal.returns-in-TooBig
returns-in-TooBig c = λ item is.
    let big : item ≡ Some TooBig = rw c.in-TooBig.is at is in
    sym (ap (came_in c.args.version) big)
