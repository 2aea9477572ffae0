-- Keys that are compared after all are read.
use Rattle.structures_decoder.proofs.Words.{◌≡◌, ◌<◌, ◌≤◌, ℕ, false, refl, sym, ap, ◌∙◌, List, [], ◌∷◌, ◌++◌, length, take, get_or, Option, Ok, String, Global, subst, arith, Tree, Read, text, key_at, layer, inner_none, new_key, IsRead, get_or_append_left, get_or-append_seam, take-append-le, take_at, take-map, length-map, length-append, string_bytes, is_among, names, IsFirstTwin}

-- no name is one of those before it
abbrev pub NewNames : List (List ℕ) → Type 0
NewNames ns = (k : ℕ) → k < length ns → is_among (get_or ns k []) (take k ns) ≡ false

-- so are all but the last, and the last is none of them
pub last_new : (ns : List (List ℕ)) (n : List ℕ) → NewNames (ns ++ n ∷ []) → NewNames ns × (is_among n ns ≡ false)
last_new ns n h = (
  λ k lt.
      ap (λ (b : List (List ℕ)). is_among (get_or ns k []) b) (sym (take-append-le k ns (n ∷ []) (omega (arith, lt))))
      ∙ ap (λ (m : List ℕ). is_among m (take k (ns ++ n ∷ []))) (sym (get_or_append_left ns (n ∷ []) [] k lt))
      ∙ h k (omega (arith, lt, length-append ns (n ∷ []))),
  ap (λ (b : List (List ℕ)). is_among n b) (sym (take_at ns (n ∷ []) (length ns) refl))
      ∙ ap (λ (m : List ℕ). is_among m (take (length ns) (ns ++ n ∷ []))) (sym (get_or-append_seam ns n [] []))
      ∙ h (length ns) (omega (arith, length-append ns (n ∷ []))),
)

-- so are the names of pairs that have no twin
pub all_new : {A : Type 0} (es : List (String Global × A)) (n : ℕ) → IsFirstTwin es n → length es ≤ n → NewNames (names es)
all_new {A = A} es n t le =
    let name : String Global × A → List ℕ = λ e. string_bytes e.0 in
    λ k lt. ap (λ (b : List (List ℕ)). is_among (get_or (names es) k []) b) (take-map name k es) ∙ t.fresh k (omega (arith, lt, le, length-map es name))

-- a text that is read, and is none of the keys before it, is the next key
pub key_known : (before : List (List ℕ)) (b k after : List ℕ) → is_among k before ≡ false → ((room : ℕ) → IsRead room (text k) b after) → key_at before b ≡ Ok (k, after)
key_known before b k after fresh h = new_key before b k after fresh (subst (λ (i : Option (List ℕ → Read Tree)). layer i b ≡ Ok (text k, after)) (inner_none 0 refl) (h 0))
