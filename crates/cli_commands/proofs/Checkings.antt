-- What is said of bytes that were read, or refused, and that it is one thing.
use Rattle.std.proofs.Common.{◌≡◌, inl, inr, ℕ, false, List, Result, Err, refl, sym, ap, subst, ◌∙◌, arith, ◌↔◌}
use Rattle.packstream.specs.declared.fault.Reason.{Reason}
use Rattle.packstream.specs.declared.fault.PackFault.{PackFault}
use Rattle.packstream.specs.declared.fault.PackFault.TheVariants as pack
use Rattle.packstream.specs.Prelude.{Tree, IsGood, Spells, first_fault, faults_in, Bad, UnlessMemory, SpellsOnly, IsBadOnly, HasOneAnswer}
use Rattle.packstream.proofs.Checking.{bad_when}
use Rattle.wire.specs.declared.Version.{Version}
use Rattle.structures_cells.specs.Prelude.{fault, structures, IsBad}
use Rattle.structures_cells.proofs.Fine.{fine_scan}
use Rattle.structures.specs.declared.fault.CellFault.{CellFault}
use Rattle.structures.specs.declared.fault.CellFault.TheVariants as cell_fault
use Rattle.structures.specs.Prelude.{Reads, HasOneReading, Form, form}
use Rattle.structures.proofs.Formed.{again}
use Rattle.structures.proofs.Clauses.{never_unwritable}
use Rattle.cli_commands.specs.declared.checks.Checked.{Checked}
use Rattle.cli_commands.specs.declared.checks.Checked.TheVariants.{Fine, Refused, Unfit}
use Rattle.cli_commands.specs.Checks.{Checks, ChecksFault, IsSpelled, IsUnfit, IsWrittenBack, IsCell, IsTooLong}
use Rattle.packstream.proofs.Deciding.{one_answer_is}
use Rattle.structures_cells.specs.declared.fault.Reason.{Reason as CellReason}
use Rattle.structures.proofs.Clauses.{one_reading_is}
use Rattle.cli_commands.specs.Laws.{IsSameCheck, HasOneCheck}

-- what the decoder refused
pub refused_checks : (b : List ℕ) (f : PackFault) (r : Result Tree PackFault) → r ≡ Err f → ((q : Reason) (o : ℕ) → UnlessMemory r ((r ≡ Err (pack.Refused q o)) ↔ Bad b o q)) → ChecksFault b f
refused_checks b (pack.Refused q o) r e h = let g = rw e at h in (g q o).0 refl
refused_checks b pack.Memory r e h = tt

-- a cell has one form
one_form : (v : Version) (s t u : Tree) → Form v s t → Form v s u → u ≡ t
one_form v s t u f g =
    sym (again v u (fine_scan (fault v) 0 g.0.0 (structures u) g.0.1)) ∙ ap (form v) (sym g.1) ∙ ap (form v) f.1 ∙ again v t (fine_scan (fault v) 0 f.0.0 (structures t) f.0.1)

spelled_checks : (v : Version) (b : List ℕ) (t s : Tree) (c : Checked) → IsGood t → Spells t b → Form v s t → IsSpelled t c → Checks v b c
spelled_checks v b t s (Fine hex) good spells f h = record { tree = t; good = good; spelled = spells; cell = (s, f); again = h }
spelled_checks v b t s (Refused r o) good spells f h = inr (record { tree = t; good = good; spelled = spells; cell = (s, f); again = h })
spelled_checks v b t s (Unfit r k) good spells f h = absurd h

-- what is written of a cell is the value that was read
pub written_checks : (v : Version) (b : List ℕ) (t s : Tree) (c : Checked) → IsGood t → Spells t b → Form v s t → IsWrittenBack v s c → Checks v b c
written_checks v b t s c good spells f (inl w) = spelled_checks v b t s c good spells f (subst (λ x. IsSpelled x c) (one_form v s t w.tree f w.form) w.spelled)
written_checks v b t s c good spells f (inr (cell_fault.Refused r k, w, is)) = absurd (never_unwritable v s t k r f w)
written_checks v b t s c good spells f (inr (cell_fault.Pack r o, w, is)) =
    let same : w.value ≡ t = one_form v s t w.value f w.formed in
    absurd (bad_when t (r, o)
    (subst (λ x. Err (r, o) ≡ first_fault (faults_in 0 false x) 0) same (sym w.unpacked)) good)
written_checks v b t s c good spells f (inr (cell_fault.Memory, w, is)) = absurd is

-- a value that is no cell is told by its fault
pub unfit_is : (v : Version) (b : List ℕ) (t : Tree) (e : CellFault) (c : Checked) → IsGood t → Spells t b → Reads v t (Err e) → IsUnfit e c → Checks v b c
unfit_is v b t (cell_fault.Refused r k) c good spells w h = subst (λ x. Checks v b x) (sym h) (record { tree = t; good = good; spelled = spells; bad = w })
unfit_is v b t (cell_fault.Pack r o) c good spells w h = absurd w
unfit_is v b t cell_fault.Memory c good spells w h = absurd h

-- what is said of the one value that the bytes spell
abbrev ChecksTree : Version → Tree → Checked → Type 0
ChecksTree v t (Fine hex) = IsCell v t × IsSpelled t (Fine hex)
ChecksTree v t (Refused r o) = IsCell v t × IsTooLong t r o
ChecksTree v t (Unfit r k) = IsBad v t k r

checks_tree : (v : Version) (b : List ℕ) (c : Checked) (s : SpellsOnly b) → Checks v b c → ChecksTree v s.tree c
checks_tree v b (Fine hex) s h = subst (λ t. ChecksTree v t (Fine hex)) (sym (s.only h.tree h.good h.spelled)) (h.cell, h.again)
checks_tree v b (Refused r o) s (inl h) = absurd (s.never_bad o r h)
checks_tree v b (Refused r o) s (inr h) = subst (λ t. ChecksTree v t (Refused r o)) (sym (s.only h.tree h.good h.spelled)) (h.cell, h.again)
checks_tree v b (Unfit r k) s h = subst (λ t. IsBad v t k r) (sym (s.only h.tree h.good h.spelled)) h.bad

cell_or_bad : (v : Version) (t : Tree) (k : ℕ) (r : CellReason) → HasOneReading v t → IsCell v t → IsBad v t k r → ⊥
cell_or_bad v t k r (inl x) g h = x.never_bad k r h
cell_or_bad v t k r (inr x) g h = x.forms_none g.0 g.1

bad_once : (v : Version) (t : Tree) (k j : ℕ) (r q : CellReason) → HasOneReading v t → IsBad v t k r → IsBad v t j q → (r ≡ q) × (k ≡ j)
bad_once v t k j r q (inl x) g h = absurd (x.never_bad k r g)
bad_once v t k j r q (inr x) g h =
    let a = x.only k r g in
    let d = x.only j q h in
    (sym a.1 ∙ d.1, sym a.0 ∙ d.0)

tree_once : (v : Version) (t : Tree) (c d : Checked) → HasOneReading v t → ChecksTree v t c → ChecksTree v t d → IsSameCheck c d
tree_once v t (Fine x) (Fine y) one g h = g.1.1 ∙ sym h.1.1
tree_once v t (Fine x) (Refused r o) one g h = absurd (omega (arith, g.1.0, h.1.long))
tree_once v t (Fine x) (Unfit r k) one g h = absurd (cell_or_bad v t k r one g.0 h)
tree_once v t (Refused r o) (Fine y) one g h = absurd (omega (arith, g.1.long, h.1.0))
tree_once v t (Refused r o) (Refused q p) one g h = (g.1.reason ∙ sym h.1.reason, g.1.place ∙ sym h.1.place)
tree_once v t (Refused r o) (Unfit q k) one g h = absurd (cell_or_bad v t k q one g.0 h)
tree_once v t (Unfit r k) (Fine y) one g h = absurd (cell_or_bad v t k r one h.0 g)
tree_once v t (Unfit r k) (Refused q o) one g h = absurd (cell_or_bad v t k r one h.0 g)
tree_once v t (Unfit r k) (Unfit q j) one g h = bad_once v t k j r q one g h

-- bytes that spell no value are refused for their one fault
refused_once : (v : Version) (b : List ℕ) (c : Checked) (x : IsBadOnly b) → Checks v b c → IsSameCheck (Refused x.why x.place) c
refused_once v b (Fine hex) x h = absurd (x.spells_none h.tree h.good h.spelled)
refused_once v b (Refused r o) x (inl h) = let e = x.only o r h in (e.1, e.0)
refused_once v b (Refused r o) x (inr h) = absurd (x.spells_none h.tree h.good h.spelled)
refused_once v b (Unfit r k) x h = absurd (x.spells_none h.tree h.good h.spelled)

same_two : (r : Reason) (o : ℕ) (c d : Checked) → IsSameCheck (Refused r o) c → IsSameCheck (Refused r o) d → IsSameCheck c d
same_two r o (Refused q p) (Refused s n) g h = (sym g.0 ∙ h.0, sym g.1 ∙ h.1)
same_two r o (Refused q p) _ g h = absurd h
same_two r o _ d g h = absurd g

checked_once : (v : Version) (b : List ℕ) (c d : Checked) → HasOneAnswer b → Checks v b c → Checks v b d → IsSameCheck c d
checked_once v b c d (inl s) g h = tree_once v s.tree c d (one_reading_is v s.tree) (checks_tree v b c s g) (checks_tree v b d s h)
checked_once v b c d (inr x) g h = same_two x.why x.place c d (refused_once v b c x g) (refused_once v b d x h)

pub one_check : HasOneCheck
one_check v b c d bytes g h = checked_once v b c d (one_answer_is b bytes) g h
