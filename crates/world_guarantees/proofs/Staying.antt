-- What stays of an attempt whose client was lost.
use Rattle.std.proofs.Common.{◌≡◌, sym, ◌∙◌, ap, subst, ℕ, true, false, Some, None, slice_get, ⊎_elim}
use Rattle.std.proofs.lemmas.Bool.{cases_eq}
use Rattle.std.proofs.lemmas.Option.{same_Some}
use Rattle.client.specs.declared.SubmitFault.{SubmitFault}
use Rattle.client.specs.Prelude.{refusal_of}
use Rattle.server_session.specs.Prelude.{Setting}
use Rattle.messages.specs.Prelude.{RequestView}
use Rattle.world.specs.Prelude.{Ours, Foreign, Connection, heard_by_bytes, World, Event, Seen, Effect, place}
use Rattle.world.proofs.Deeds.{Did, opens, acts, step_did, set_same, set_other}
use Rattle.world.proofs.Trace.{get_append}
use Rattle.world.proofs.Sound.{Sound, reached_sound, Does, stays, asks, loses, gives, strange, deed_does}
use Rattle.client_tracking.specs.Attempts.{Attempt}
use Rattle.world_guarantees.specs.Tied.{IsAt, LostStays}

module _ (w : World) (c : ℕ) (k : Connection) (a : Attempt) (at : IsAt w c k a) (lost : a.lost ≡ true) where
  gone : k.client_lost ≡ true
  gone = at.lost ∙ lost

  refused : (q : RequestView) → refusal_of (heard_by_bytes k) k.client_lost k.sent q ≡ Some SubmitFault.Closed
  refused q = ap (λ b. refusal_of (heard_by_bytes k) b k.sent q) gone

  -- the same where another connection is set
  beside : (w2 : World) → slice_get w2.conns c ≡ slice_get w.conns c → (k2 : Connection) × IsAt w2 c k2 a
  beside w2 e = (k, record { here = e ∙ at.here; ours = at.ours; sent = at.sent; took = at.took; lost = at.lost })

  -- what an event does there
  done : (w2 : World) (x : Effect) → slice_get w2.conns c ≡ Some x.conn → Does k x → (k2 : Connection) × IsAt w2 c k2 a
  done w2 x e (stays y alike t) = (x.conn, record { here = e; ours = alike.peer ∙ at.ours; sent = alike.sent ∙ at.sent; took = alike.given ∙ at.took; lost = alike.lost ∙ at.lost })
  done w2 x e (asks q none) = let no : Some SubmitFault.Closed ≡ None = sym (refused q) ∙ none in cc
  done w2 x e loses = (x.conn, record { here = e; ours = at.ours; sent = at.sent; took = at.took; lost = sym lost })
  done w2 x e (gives wish n p goes on) = let no : true ≡ false = sym gone ∙ goes in cc
  done w2 x e (strange n p) = let no : Ours a.wish ≡ Foreign = sym at.ours ∙ p in cc

  did : (S : Setting) (sound : Sound k) (e : Event) (seen : Seen) (w2 : World) → Did S w e seen w2 → (k2 : Connection) × IsAt w2 c k2 a
  did S sound e seen w2 (opens peer room) = beside w2 (get_append w.conns _ c k at.here ∙ sym at.here)
  did S sound e seen w2 (acts event k1 x here d) =
      ⊎_elim (λ same. it same) (λ apart. beside w2 (set_other w.conns (place event) c x.conn apart)) (cases_eq (place event) c)
    where
      it : place event ≡ c → (k2 : Connection) × IsAt w2 c k2 a
      it same =
          let one : k1 ≡ k = same_Some k1 k (sym here ∙ ap (slice_get w.conns) same ∙ at.here) in
          done w2 x (subst (λ i. slice_get w2.conns i ≡ Some x.conn) same (set_same w.conns (place event) k1 x.conn here)) (subst (λ z. Does z x) one (deed_does k1 (subst Sound (sym one) sound) d))

pub lost_stays : LostStays
lost_stays S brought w r c k a at lost e seen w2 s = did w c k a at lost S (reached_sound S brought r c k at.here) e seen w2 (step_did S w e seen w2 s.steps)
