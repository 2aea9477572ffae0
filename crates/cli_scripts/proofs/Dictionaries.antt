-- The cell of a value at a version, and parameters: the entries of a dictionary that is a cell.
use Rattle.std.proofs.Common.{◌≡◌, ℕ, Ok, Err, Some, None, ap, sym, ◌∙◌, ◌↔◌, List, [], ◌∷◌, Option, Result, refl, option_and_then}
use Rattle.packstream.specs.Prelude.{Tree, dict, Entries, no_entries, entry_then, whole_of, IsGood, AreBytes, Spells, entries_of}
use Rattle.wire.specs.declared.Version.{Version}
use Rattle.structures_cells.specs.declared.cell.Cell.{Cell}
use Rattle.structures_cells.specs.declared.fault.Reason.{Reason}
use Rattle.structures_cells.specs.Prelude.{shape, fault, scan, structures}
use Rattle.structures.specs.declared.fault.CellFault.TheVariants as cell_fault
use Rattle.structures.specs.Prelude.{Reads, Form, typed}
use Rattle.cli_scripts.specs.Prelude.{cell_by, cell_at, cell_among, cell_of, entries_in, params_of, IsParams, Params}
use Rattle.std.specs.Option.{option_or}
use Rattle.std.specs.Result.{result_ok}
use Rattle.packstream.proofs.Deciding.{whole_value}
use Rattle.packstream.specs.declared.fault.Reason.{Reason as PackReason}
use Rattle.wire.specs.declared.Version.TheVariants.{V44, V50, V51}
use Rattle.wire.specs.Prelude.{versions}
use Rattle.messages.specs.Prelude.{pairs_of}

pub cell_is : (v : Version) (t : Tree) (c : Cell) → Reads v t (Ok c) → cell_at v t ≡ Some (shape c)
cell_is v t c h = ap (λ r. cell_by r t) h.0.1 ∙ ap (λ s. Some s) (sym h.1)

pub no_cell : (v : Version) (t : Tree) (r : Reason) (k : ℕ) → Reads v t (Err (cell_fault.Refused r k)) → cell_at v t ≡ None
no_cell v t r k h = ap (λ x. cell_by x t) h

pub pairs_back : (es : Params) → pairs_of (entries_of es) ≡ es
pairs_back [] = refl
pairs_back (e ∷ es) = ap (λ r. e ∷ r) (pairs_back es)

entries_again : (es : Entries) → entries_of (pairs_of es) ≡ es
entries_again no_entries = refl
entries_again (entry_then k t es) = ap (entry_then k t) (entries_again es)

same_some : {X : Type 0} (x y : X) → Some x ≡ Some y → x ≡ y
same_some x y e = cc

dictionary : (s : Tree) (ps : Params) → entries_in s ≡ Some ps → dict (entries_of ps) ≡ s
dictionary (dict es) ps e = ap (λ x. dict (entries_of x)) (sym (same_some (pairs_of es) ps e)) ∙ ap dict (entries_again es)
dictionary _ ps e = absurd cc

abbrev Judged : Type 0
Judged = Result ℕ (Reason × ℕ)

-- the version that judged the value so, or one of those after it
formed_first : (v : Version) (t : Tree) (ps : Params) (j : Judged) (rest : Option Tree) → scan (fault v) 0 (structures t) ≡ j
    → (option_and_then entries_in rest ≡ Some ps → (w : Version) × Form w (dict (entries_of ps)) t)
    → option_and_then entries_in (option_or (cell_by j t) rest) ≡ Some ps → (w : Version) × Form w (dict (entries_of ps)) t
formed_first v t ps (Ok n) rest e k h = (v, ((n, e), dictionary (typed t) ps h))
formed_first v t ps (Err x) rest e k h = k h

formed_last : (v : Version) (t : Tree) (ps : Params) (j : Judged) → scan (fault v) 0 (structures t) ≡ j → option_and_then entries_in (cell_by j t) ≡ Some ps → (w : Version) × Form w (dict (entries_of ps)) t
formed_last v t ps (Ok n) e h = (v, ((n, e), dictionary (typed t) ps h))
formed_last v t ps (Err x) e h = absurd cc

formed_among : (vs : List Version) (t : Tree) (ps : Params) → option_and_then entries_in (cell_among vs t) ≡ Some ps → (w : Version) × Form w (dict (entries_of ps)) t
formed_among [] t ps h = absurd cc
formed_among (v ∷ []) t ps h = formed_last v t ps (scan (fault v) 0 (structures t)) refl h
formed_among (v ∷ (u ∷ us)) t ps h = formed_first v t ps (scan (fault v) 0 (structures t)) (cell_among (u ∷ us) t) refl (formed_among (u ∷ us) t ps) h

entered : (t : Tree) (ps : Params) → dict (entries_of ps) ≡ typed t → entries_in (typed t) ≡ Some ps
entered t ps e = ap entries_in (sym e) ∙ ap Some (pairs_back ps)

-- an older version is asked after a newer, and both give the same cell
too : (t : Tree) (new : Judged) (old : Option Tree) → old ≡ Some (typed t) → option_or (cell_by new t) old ≡ Some (typed t)
too t (Ok n) old e = refl
too t (Err x) old e = e

of_some : (v : Version) (t : Tree) → cell_at v t ≡ Some (typed t) → cell_of t ≡ Some (typed t)
of_some V51 t e = ap (λ o. option_or o (option_or (cell_at V50 t) (cell_at V44 t))) e
of_some V50 t e = too t (scan (fault V51) 0 (structures t)) _ (ap (λ o. option_or o (cell_at V44 t)) e)
of_some V44 t e = too t (scan (fault V51) 0 (structures t)) _ (too t (scan (fault V50) 0 (structures t)) _ e)

found : (v : Version) (t : Tree) (ps : Params) → Form v (dict (entries_of ps)) t → option_and_then entries_in (cell_of t) ≡ Some ps
found v t ps f = ap (option_and_then entries_in) (of_some v t (ap (λ j. cell_by j t) f.0.1)) ∙ entered t ps f.1

spelled : (b : List ℕ) (ps : Params) (bytes : AreBytes b) (r : Result Tree (PackReason × ℕ)) → whole_of b ≡ r
    → option_and_then entries_in (option_and_then cell_of (result_ok r)) ≡ Some ps → IsParams b ps
spelled b ps bytes (Ok t) e h =
    let good : IsGood t × Spells t b = (whole_value b bytes t).0 e in
    let cell = formed_among versions t ps h in
    record { version = cell.0; value = t; good = good.0; spelled = good.1; form = cell.1 }
spelled b ps bytes (Err x) e h = absurd cc

pub are_params : (b : List ℕ) (ps : Params) → AreBytes b → (params_of b ≡ Some ps) ↔ IsParams b ps
are_params b ps bytes = (
  (λ (h : params_of b ≡ Some ps). spelled b ps bytes (whole_of b) refl h),
  (λ (h : IsParams b ps). ap (λ r. option_and_then entries_in (option_and_then cell_of (result_ok r))) ((whole_value b bytes h.value).1 (h.good, h.spelled)) ∙ found h.version h.value ps h.form),
)
