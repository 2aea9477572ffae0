-- The client of a link, and what is held once it has changed.
use Rattle.std.proofs.Common.{ap₂, map, Err, ◌≡◌, refl, sym, ◌∙◌, ap, subst, Option, Some, None, is_some, true, false, Ok, List, ℕ, Vec, Global}
use Rattle.wire.specs.declared.Wish.{Wish}
use Rattle.client.specs.declared.Client.{Client}
use Rattle.client.specs.declared.Outcome.{Outcome}
use Rattle.client.specs.Fits as client
use Rattle.client.specs.Rest as asking
use Rattle.world.specs.declared.flow.Flow.{Flow}
use Rattle.world.specs.declared.link.End.{End}
use Rattle.world.specs.declared.link.End.TheVariants as end
use Rattle.world.specs.declared.link.Link.{Link as LinkHeld}
use Rattle.world.specs.declared.link.Read.{Read}
use Rattle.client.specs.declared.ClientFault.{ClientFault}
use Rattle.client.specs.declared.ClientFault.TheVariants as client_fault
use Rattle.world.specs.Prelude.{SawNothing, Link, ReadSummary, FitsEnd, link_of, flow_of, read_of, Holds, Submits, refusal_seen, LosesClient, after_loss}
use Rattle.messages.specs.Prelude.{RequestView}
use Rattle.client.specs.declared.SubmitFault.{SubmitFault}
use Rattle.client.specs.declared.SubmitFault.TheVariants as submit_fault

-- a link whose end is replaced
abbrev pub with_end : LinkHeld → End → LinkHeld
with_end l e = record l { end = e }

-- the rest of the client of an end
pub held_is : {wish : Wish} {c : Client} {lost : Option (List (ℕ × Outcome))} (l : LinkHeld) → l.end ≡ end.Ours wish c lost → (x : Option asking.Rest) → FitsEnd l.end x → x ≡ Some (client.rest_of c)
held_is l is None f = absurd (subst (λ e. FitsEnd e None) is f)
held_is l is (Some y) f = ap (λ z. Some z) (sym (subst (λ e. FitsEnd e (Some y)) is f))

abbrev pub held_client : {wish : Wish} {c : Client} {lost : Option (List (ℕ × Outcome))} (l : LinkHeld) → l.end ≡ end.Ours wish c lost → (x : Option asking.Rest) → FitsEnd l.end x → (y : asking.Rest) × (x ≡ Some y) × client.Fits c y
held_client {c = c} l is x f = (client.rest_of c, held_is l is x f, refl)

module _ (wish : Wish) (c : Client) (lost : Option (List (ℕ × Outcome))) where
  abbrev pub holds_client : (l : LinkHeld) → l.end ≡ end.Ours wish c lost → (m : Link) → Holds l m
      → (y : asking.Rest) × (m.client ≡ Some y) × client.Fits c y × (m ≡ link_of (with_end l (end.Ours wish c lost)) (Some y))
  holds_client l is m h =
      let r = held_client l is h.client h.ends in
      (r.0, ap (λ z. z.client) h.link_is ∙ r.1, r.2, h.link_is ∙ ap (λ x. link_of l x) r.1 ∙ ap (λ e. link_of (with_end l e) (Some r.0)) is)

  -- what is held once the client has changed
  pub holds_then : (l : LinkHeld) (m : Link) (y y2 : asking.Rest) (c2 : Client) → m ≡ link_of (with_end l (end.Ours wish c lost)) (Some y) → client.Fits c2 y2
      → Holds (with_end l (end.Ours wish c2 lost)) (record m { client = Some y2 })
  holds_then l m y y2 c2 e f = record { client = Some y2; link_is = ap (λ (z : Link). let z2 : Link = record z { client = Some y2 } in z2) e; ends = f }

  pub holds_still : (l : LinkHeld) (m : Link) (y : asking.Rest) (c2 : Client) → m ≡ link_of (with_end l (end.Ours wish c lost)) (Some y) → client.Fits c2 y
      → Holds (with_end l (end.Ours wish c2 lost)) m
  holds_still l m y c2 e f = record { client = Some y; link_is = e; ends = f }

-- a request that the client refuses
module _ (m : Link) (q : RequestView) (Now : Link → Type 0) (y : asking.Rest) (is : m.client ≡ Some y) (now : Now m) where
  pub refused_submits : (fault : SubmitFault) → ((fault ≡ submit_fault.Memory → ⊥) → asking.refuses y.knows q ≡ Some fault) → Submits m q (refusal_seen fault) Now
  refused_submits submit_fault.Memory h = record { client = y; here = is; now = now }
  refused_submits _ h = record { client = y; here = is; refused = h (λ e. cc); now = now }

-- the client's loss
module _ (wish : Wish) (c : Client) (lost : Option (List (ℕ × Outcome))) (l : LinkHeld) (is : l.end ≡ end.Ours wish c lost) (m : Link) (h : Holds l m) where
  pub loses_again : is_some lost ≡ true → LosesClient m (Ok SawNothing) (Holds (with_end l (end.Ours wish c lost)))
  loses_again b =
      let r = holds_client wish c lost l is m h in let was : m.client_lost ≡ true = ap (λ z. z.client_lost) r.3 ∙ b in
      record {
        client = r.0;
        here = r.1;
        now = subst (λ z. Holds (with_end l (end.Ours wish c lost)) (after_loss z m r.0)) (sym was)
            (record { client = Some r.0; link_is = r.3; ends = r.2 });
      }

  pub loses_now : is_some lost ≡ false → (c2 : Client) (told : List (ℕ × Outcome)) → ((y : asking.Rest) → client.Fits c y → (told ≡ asking.losses y.knows) × client.Fits c2 (asking.after_drop y))
      → LosesClient m (Ok SawNothing) (Holds (with_end l (end.Ours wish c2 (Some told))))
  loses_now b c2 told a =
      let r = holds_client wish c lost l is m h in let d = a r.0 r.2 in
      let was : m.client_lost ≡ false = ap (λ z. z.client_lost) r.3 ∙ b in
      let P : Link → Type 0 = Holds (with_end l (end.Ours wish c2 (Some told))) in
      record {
        client = r.0;
        here = r.1;
        now = subst (λ z. P (after_loss z m r.0)) (sym was) (record {
          client = Some (asking.after_drop r.0);
          link_is = ap (λ (z : Link). let z2 : Link = record z { client = Some (asking.after_drop r.0); client_lost = true; lost = asking.losses r.0.knows } in z2) r.3
              ∙ ap (λ x. let z2 : Link = record (link_of (with_end l (end.Ours wish c2 (Some told))) (Some (asking.after_drop r.0))) { lost = x } in z2) (sym d.0);
          ends = d.1;
        });
      }

-- the link with other bytes on their way
module _ {wish : Wish} {c : Client} {lost : Option (List (ℕ × Outcome))} (l : LinkHeld) (is : l.end ≡ end.Ours wish c lost) (x z : Option asking.Rest) (c2 : Client) where
  pub up_changed : (up : Flow) (bytes : List ℕ) → flow_of up ≡ bytes → link_of (record l { end = end.Ours wish c2 lost; up = up }) z ≡ record (link_of l x) { client = z; up = bytes }
  up_changed up bytes e = ap₂ (λ (q : End) (u : List ℕ). let m : Link = record (link_of (with_end l q) x) { client = z; up = u } in m) (sym is) e

  pub down_changed : (down : Flow) (read : Vec Read Global) (bytes : List ℕ) (rs : List ReadSummary) → flow_of down ≡ bytes → map read_of read.items ≡ rs
      → link_of (record l { end = end.Ours wish c2 lost; down = down; read = read }) z ≡ record (link_of l x) { client = z; down = bytes; read = rs }
  down_changed down read bytes rs e f =
      ap₂ (λ (q : End) (u : List ℕ × List ReadSummary). let m : Link = record (link_of (with_end l q) x) { client = z; down = u.0; read = u.1 } in m) (sym is)
      (ap₂ (λ (a : List ℕ) (b : List ReadSummary). (a, b)) e f)

-- what a client answers but want of memory
pub unless : (A : Type 0) (e : ClientFault) (p : Type 0) → client.UnlessMemory {A = A} (Err e) p → (e ≡ client_fault.Memory → ⊥) → p
unless A client_fault.Memory p h differs = absurd (differs refl)
unless A _ p h differs = h
