-- What a part of a piece uses, and where the position goes: one that isn't past the limit goes on.
use Rattle.std.proofs.Common.{◌≡◌, refl, sym, ◌∙◌, ap, subst, ℕ, zero, suc, ◌+◌, ◌*◌, ◌<◌, Bool, true, false, cond, eqb, ltb, Option, Some, None, List, [], ◌∷◌, length, arith, true≢false, min}
use Rattle.wire.specs.declared.parts.Cut.{Cut}
use Rattle.wire.specs.declared.parts.Part.TheVariants as part
use Rattle.wire.specs.Prelude.{Place, start, Bite, bite, inside, past, on_data, cut_at}
use Rattle.wire.specs.Parts.{on_length, on_header}

-- some bytes are used, and the position isn't past the limit unless the part says so
pub record Goes (b : Bite) : Type 0 where
  pub some : 0 < b.cut.used
  pub going : (b.cut.what ≡ part.TooBig → ⊥) → b.place.too_big ≡ false

either : (t : Bool) (x y : Bite) → (t ≡ true → Goes x) → (t ≡ false → Goes y) → Goes (cond t x y)
either true x y p q = p refl
either false x y p q = q refl

length_goes : (used sum n : ℕ) → 0 < used → Goes (on_length used sum n)
length_goes used sum n some =
    either (eqb n 0) (bite used (cond (eqb sum 0) part.Noop part.End) start) (cond (ltb 65536 (sum + n)) (bite used part.TooBig (past sum)) (bite used part.Head (inside (sum + n) n)))
    (λ e. record { some = some; going = λ other. refl })
    (λ e. either (ltb 65536 (sum + n)) (bite used part.TooBig (past sum)) (bite used part.Head (inside (sum + n) n)) (λ f. record { some = some; going = λ other. absurd (other refl) }) (λ f. record { some = some; going = λ other. refl }))

header_goes : (p : Place) (header : Option ℕ) (b : ℕ) (bs : List ℕ) → p.too_big ≡ false → Goes (on_header p header (b ∷ bs))
header_goes p (Some high) b bs small = length_goes 1 p.sum (high * 256 + b) (omega arith)
header_goes p None b [] small = record { some = omega arith; going = λ other. small }
header_goes p None b (x ∷ bs) small = length_goes 2 p.sum (b * 256 + x) (omega arith)

data_used : (lacks : ℕ) (b : ℕ) (bs : List ℕ) → eqb lacks 0 ≡ false → 0 < min lacks (length (b ∷ bs))
data_used zero b bs e = absurd cc
data_used (suc lacks) b bs e = omega arith

data_goes : (p : Place) (b : ℕ) (bs : List ℕ) → p.too_big ≡ false → eqb p.lacks 0 ≡ false → Goes (on_data p (b ∷ bs))
data_goes p b bs small e = record { some = data_used p.lacks b bs e; going = λ other. small }

part_goes : (p : Place) (piece : List ℕ) → 0 < length piece → p.too_big ≡ false → Goes (cut_at p piece)
part_goes p [] some small = absurd (omega arith)
part_goes p (b ∷ bs) some small =
    either p.too_big (bite 0 part.TooBig p) (cond (eqb p.lacks 0) (on_header p p.header (b ∷ bs)) (on_data p (b ∷ bs))) (λ e. absurd (true≢false (sym e ∙ small)))
    (λ e. either (eqb p.lacks 0) (on_header p p.header (b ∷ bs)) (on_data p (b ∷ bs)) (λ f. header_goes p p.header b bs small) (λ f. data_goes p b bs small f))

module _ (p next : Place) (piece : List ℕ) (c : Cut) (some : 0 < length piece) (small : p.too_big ≡ false) (cut : c ≡ (cut_at p piece).cut) (place : next ≡ (cut_at p piece).place) where
  pub some_used : 0 < c.used
  some_used = subst (λ (k : Cut). 0 < k.used) (sym cut) (part_goes p piece some small).some

  pub keeps_going : (c.what ≡ part.TooBig → ⊥) → next.too_big ≡ false
  keeps_going other =
      subst (λ (q : Place). q.too_big ≡ false) (sym place) ((part_goes p piece some small).going (λ e. other (ap (λ (k : Cut). k.what) cut ∙ e)))
