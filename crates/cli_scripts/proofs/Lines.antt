-- The lines of a script, one after the other.
use Rattle.std.proofs.Common.{◌≡◌, ℕ, ◌+◌, ◌<◌, ◌==◌, length, drop, map, get_or, Bor, true, false, List, [], ◌∷◌, ◌++◌, append_assoc, Option, Some, refl, sym, ap, ◌∙◌, arith, option_map}
use Rattle.std.proofs.lemmas.List.{drop-map, drop_more, map-append}
use Rattle.cli_scripts.specs.declared.fault.LineFault.{LineFault}
use Rattle.cli_scripts.specs.declared.fault.LineFault.TheVariants.{Unreadable, Memory}
use Rattle.cli_scripts.specs.declared.fault.ScriptFault.{ScriptFault}
use Rattle.cli_scripts.specs.Prelude.{Refused, Text, is_empty, filled_from, filled_lines, lines_read, unreadable, fault_at, IsRefused}

-- what the lines of bytes say is this, and then what these lines say, of which the first has number n; none before them can't be read
pub record HasRead {V : Type 0} (read : Text → Option V) (b : List ℕ) (out : List (ℕ × V)) (n : ℕ) (ls : List Text) : Type 0 where
  pub told : lines_read read (filled_lines b) ≡ out ++ lines_read read (filled_from n ls)
  pub left : unreadable read (filled_lines b) ≡ unreadable read (filled_from n ls)

-- the texts of lines that are lent
abbrev pub texts : List (Bor (List ℕ)) → List Text
texts ls = map (λ l. l.now) ls

first_of : (ls : List (Bor (List ℕ))) (i : ℕ) (d : Bor (List ℕ)) → i < length ls → drop i (texts ls) ≡ (get_or ls i d).now ∷ drop (i + 1) (texts ls)
first_of ls i d h = drop-map (λ l. l.now) i ls ∙ ap texts (drop_more ls i d h) ∙ ap (λ rest. (get_or ls i d).now ∷ rest) (sym (drop-map (λ l. l.now) (i + 1) ls))

empty_is : (l : Text) → is_empty l ≡ (length l == 0)
empty_is [] = refl
empty_is (x ∷ xs) = grind arith

-- the next line is passed over where it is empty, or it is read, or it can't be
module _ {V : Type 0} (read : Text → Option V) (b : List ℕ) (out : List (ℕ × V)) (ls : List (Bor (List ℕ))) (i : ℕ) (d : Bor (List ℕ)) (h : i < length ls) (k : HasRead read b out (i + 1) (drop i (texts ls))) where
  abbrev rest : List Text
  rest = drop (i + 1) (texts ls)

  here : HasRead read b out (i + 1) ((get_or ls i d).now ∷ rest)
  here = rw (first_of ls i d h) at k

  pub skips_line : (length (get_or ls i d).now == 0) ≡ true → HasRead read b out (i + 1 + 1) rest
  skips_line e = let empty = empty_is (get_or ls i d).now ∙ e in record { told = rw empty at here.told; left = rw empty at here.left }

  pub reads_line : (v : V) → (length (get_or ls i d).now == 0) ≡ false → read (get_or ls i d).now ≡ Some v → HasRead read b (out ++ (i + 1, v) ∷ []) (i + 1 + 1) rest
  reads_line v e r =
      let filled = empty_is (get_or ls i d).now ∙ e in
      record { told = (rw (filled, r) at here.told) ∙ sym (append_assoc out ((i + 1, v) ∷ []) (lines_read read (filled_from (i + 1 + 1) rest))); left = rw (filled, r) at here.left }

  pub stops_line : (f : LineFault) (s : ScriptFault) → (length (get_or ls i d).now == 0) ≡ false → Refused f (read (get_or ls i d).now) → s ≡ fault_at (i + 1) f → IsRefused read b s
  stops_line Unreadable s e r same = rw same (ap (option_map (λ x. x.0)) (rw (empty_is (get_or ls i d).now ∙ e, r) at here.left))
  stops_line Memory s e r same = rw same tt

-- what was pushed stands at the end
pub pushed : {A B : Type 0} (f : A → B) (old new : List A) (x : A) → new ≡ old ++ x ∷ [] → map f old ++ f x ∷ [] ≡ map f new
pushed f old new x e = sym (ap (map f) e ∙ map-append f old (x ∷ []))
