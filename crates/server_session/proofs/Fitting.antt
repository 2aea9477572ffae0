-- What is written of a response can be written, and what has a text can be said.
use Rattle.std.proofs.Common.{◌≡◌, refl, sym, ◌∙◌, ap, subst, ℕ, true, List, [], ◌∷◌, ◌++◌, Ok, Err, arith, Result, ◌&&◌, nat_lt, ◌↔◌, bytes_eq}
use Rattle.std.proofs.lemmas.Bool.{and_from}
use Rattle.std.proofs.lemmas.Bool.Decides.{nat_tests}
use Rattle.packstream.specs.Prelude.{Tree, AreBytes}
use Rattle.wire.specs.declared.Version.{Version}
use Rattle.structures_cells.specs.Prelude.{same_tree}
use Rattle.structures_cells.proofs.Equality.{tree_is, bytes_is}
use Rattle.messages.specs.declared.fault.MsgFault.{MsgFault}
use Rattle.messages.specs.declared.fault.MsgFault.TheVariants as writer
use Rattle.messages.specs.Prelude.{ResponseView, Success, Record, Ignored, Failure, Resp, response_of, response_spelling, IsResponse}
use Rattle.messages.proofs.Sent.{response_fits, response_is}
use Rattle.messages.proofs.Rounds.{response_reads_back}
use Rattle.server_session.specs.Prelude.{same_cells, same_metadata, same_say, is_reading, are_bytes, is_text, fits, of_writer, unwritable, IsBody, Refuses, unwritten_of}
use Rattle.server_session.specs.declared.fault.Fault.{Fault}
use Rattle.server_session.specs.declared.spelling.Unwritten.{Unwritten}
use Rattle.server_session.specs.declared.spelling.Unwritten.TheVariants as unwritten

-- Each is the same as itself.
same_cells-refl : (ts : List Tree) → same_cells ts ts ≡ true
same_cells-refl [] = refl
same_cells-refl (t ∷ ts) = and_from (same_tree t t) (same_cells ts ts) (tree_is t) (same_cells-refl ts)

same_metadata-refl : (es : List (List ℕ × Tree)) → same_metadata es es ≡ true
same_metadata-refl [] = refl
same_metadata-refl (e ∷ es) = and_from (bytes_eq e.0 e.0) (same_tree e.1 e.1 && same_metadata es es) (bytes_is e.0) (and_from (same_tree e.1 e.1) (same_metadata es es) (tree_is e.1) (same_metadata-refl es))

same_say-refl : (m : ResponseView) → same_say m m ≡ true
same_say-refl (Success es) = same_metadata-refl es
same_say-refl (Record ts) = same_cells-refl ts
same_say-refl Ignored = refl
same_say-refl (Failure c m) = and_from (bytes_eq c c) (bytes_eq m m) (bytes_is c) (bytes_is m)

bytes_if : (b : List ℕ) → AreBytes b → are_bytes b ≡ true
bytes_if [] h = refl
bytes_if (x ∷ b) h = and_from (nat_lt x 256) (are_bytes b) (grind (arith, nat_tests, h.0)) (bytes_if b h.1)

pub said_fits : (v : Version) (m : ResponseView) (b : List ℕ) → response_spelling v m ≡ Ok b → Resp v m b → fits v m ≡ true
unfolding fits
said_fits v m b e h =
    ap (is_text v m) e
    ∙ and_from (are_bytes b) (is_reading (response_of v b) m) (bytes_if b h.spelled.0)
    (ap (λ r. is_reading r m) (response_is v m b h) ∙ same_say-refl m)

pub said_body : (v : Version) (m : ResponseView) (b : List ℕ) → response_spelling v m ≡ Ok b → Resp v m b → IsBody v m b
said_body v m b e h = let f = response_fits v m b e h in record { text = e; some = f.0; few = f.1 }

-- what was appended to nothing
pub written : (v : Version) (m : ResponseView) (old new : List ℕ) → old ≡ [] → (b : List ℕ) × (response_spelling v m ≡ Ok b) × (new ≡ old ++ b) → ((b : List ℕ) → response_spelling v m ≡ Ok b → Resp v m b) → IsBody v m new × (fits v m ≡ true)
written v m old new none t back =
    let whole : new ≡ t.0 = t.2 ∙ ap (λ l. l ++ t.0) none in
    let resp : Resp v m t.0 = back t.0 t.1 in
    (subst (IsBody v m) (sym whole) (said_body v m t.0 t.1 resp), said_fits v m t.0 t.1 resp)

-- a writer's fault but want of memory
because : (e : MsgFault) (f : Fault) → unwritten_of e ≡ unwritten.Because f → (e ≡ writer.Memory → ⊥) × (of_writer e ≡ f)
because writer.Memory f h = cc
because _ f h = (λ e. cc, cc)

refused_by : (v : Version) (m : ResponseView) (e : MsgFault) (u : Unwritten) → unwritten_of e ≡ u → ((e ≡ writer.Memory → ⊥) → response_spelling v m ≡ Err e) → Refuses v m u
unfolding fits
refused_by v m e unwritten.Memory h r = tt
refused_by v m e (unwritten.Because f) h r =
    let b = because e f h in
    let t : response_spelling v m ≡ Err e = r b.0 in
    record { misfit = ap (is_text v m) t; why = ap unwritable t ∙ b.1 }

pub refused : (v : Version) (m : ResponseView) (e : MsgFault) → ((e ≡ writer.Memory → ⊥) → response_spelling v m ≡ Err e) → Refuses v m (unwritten_of e)
refused v m e r = refused_by v m e (unwritten_of e) refl r

text_in : (v : Version) (m : ResponseView) (r : Result (List ℕ) MsgFault) → is_text v m r ≡ true → (b : List ℕ) × (r ≡ Ok b)
text_in v m (Ok b) e = (b, refl)
text_in v m (Err e) h = absurd cc

text_of_fit : (v : Version) (m : ResponseView) → fits v m ≡ true → (b : List ℕ) × (response_spelling v m ≡ Ok b)
unfolding fits
text_of_fit v m e = text_in v m (response_spelling v m) e

pub fits_with_text : (v : Version) (m : ResponseView) → IsResponse v m → (fits v m ≡ true) ↔ ((b : List ℕ) × (response_spelling v m ≡ Ok b))
fits_with_text v m made = (
  text_of_fit v m,
  λ t. said_fits v m t.0 t.1 (response_reads_back v m t.0 made t.1).0,
)
