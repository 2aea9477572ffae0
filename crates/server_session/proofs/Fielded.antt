-- The SUCCESS of a RUN, spelled from the names of its fields.
use Rattle.std.proofs.Common.{◌≡◌, ◌<◌, ◌≤◌, ◌+◌, ℕ, zero, suc, true, List, [], ◌∷◌, ◌++◌, length, take, drop, get_or, map, Ok, codes, refl, ap, sym, subst, ◌∙◌, append_assoc, add-one, arith, All, IsUtf8}
use Rattle.std.proofs.lemmas.List.{append-nil}
use Rattle.packstream.specs.Prelude.{Tree, text, dict, Trees, count, depth, trees_depth, entries_of, trees_of, head, int_bytes, text_bytes, canon, canon_all, IsGood, AreSound, ArePlain}
use Rattle.packstream.proofs.Ranges.{fits_pos}
use Rattle.wire.specs.declared.Version.{Version}
use Rattle.structures_cells.specs.Prelude.{scan, fault as structure_fault, structures, structures_in}
use Rattle.structures.specs.Prelude.{typed_all}
use Rattle.wire.specs.Prelude.{written_run}
use Rattle.messages.specs.Prelude.{SUCCESS, run_of_result, contents, form_put, response_contents, response_spelling, IsCell, Adds}
use Rattle.messages.proofs.Added.{cells_added, appended}
use Rattle.messages.proofs.Rounds.{response_reads_back}
use Rattle.server_session.specs.Prelude.{fields_told, fields_said, fits, IsRun}
use Rattle.server_session.proofs.Fitting.{said_fits}
use Rattle.server_session.proofs.Summed.{small_head}

-- the names, as trees
abbrev pub names_in : List (List ℕ) → Trees
names_in ss = trees_of (map text ss)

-- the metadata, as a tree
abbrev pub metadata_of : List (List ℕ) → Tree
metadata_of ss = dict (entries_of (fields_told ss))

counted : (ss : List (List ℕ)) → count (names_in ss) ≡ length ss
counted [] = refl
counted (s ∷ ss) = ap suc (counted ss)

flat : (ss : List (List ℕ)) → trees_depth (names_in ss) ≡ 0
flat [] = refl
flat (s ∷ ss) = let h = flat ss in omega (arith, h)

sound : (ss : List (List ℕ)) → AreSound (names_in ss)
sound [] = tt
sound (s ∷ ss) = (tt, sound ss)

plain : (ss : List (List ℕ)) → All IsUtf8 ss → ArePlain (names_in ss)
plain [] u = tt
plain (s ∷ ss) u = (u 0 s (omega arith), plain ss (λ i d h. u (suc i) d (omega (arith, h))))

unstructured : (ss : List (List ℕ)) → structures_in (names_in ss) ≡ []
unstructured [] = refl
unstructured (s ∷ ss) = unstructured ss

themselves : (ss : List (List ℕ)) → typed_all (names_in ss) ≡ names_in ss
themselves [] = refl
themselves (s ∷ ss) = rw (themselves ss) refl

good : (ss : List (List ℕ)) → All IsUtf8 ss → IsGood (metadata_of ss)
unfolding lib.Utf8.encode
good ss u = let d = flat ss in record {
  deep = omega (arith, d);
  sound = ((refl, (refl, tt)), (sound ss, (tt, tt)));
  plain = ((codes "fields", (refl, refl)), plain ss u, ((codes "t_first", (refl, refl)), fits_pos 0 (omega arith), tt));
}

deep : (ss : List (List ℕ)) → depth (metadata_of ss) ≤ 31
deep ss = let d = flat ss in omega (arith, d)

bare : (ss : List (List ℕ)) → structures (metadata_of ss) ≡ []
bare ss = rw (unstructured ss) refl

a_cell : (v : Version) (ss : List (List ℕ)) → All IsUtf8 ss → IsCell v (metadata_of ss)
a_cell v ss u = (metadata_of ss, (good ss u).plain, ((0, ap (scan (structure_fault v) 0) (bare ss)), rw (themselves ss) refl))

-- the parts, one after another, are the metadata
pub joined : (ss : List (List ℕ)) (old a c new : List ℕ) → length ss ≤ 15 → a ≡ old ++ 0 ∷ 0 ∷ 0xB1 ∷ 0x70 ∷ 0xA2 ∷ 0x86 ∷ (codes "fields" ++ (0x90 + length ss) ∷ []) → c ≡ a ++ canon_all (names_in ss) → new ≡ c ++ 0x87 ∷ (codes "t_first" ++ 0 ∷ [])
    → new ≡ (old ++ 0 ∷ 0 ∷ 0xB1 ∷ 0x70 ∷ []) ++ canon (metadata_of ss)
unfolding head int_bytes
joined ss old a c new few p r s =
    let m = canon_all (names_in ss) in
    let t : List ℕ = 0x87 ∷ (codes "t_first" ++ 0 ∷ []) in
    let f : List ℕ = 0 ∷ 0 ∷ 0xB1 ∷ 0x70 ∷ 0xA2 ∷ 0x86 ∷ codes "fields" in
    let h : List ℕ = (0x90 + length ss) ∷ [] in
    let e : head 0x90 0xD4 (count (names_in ss)) ≡ h = ap (head 0x90 0xD4) (counted ss) ∙ small_head 0x90 0xD4 (length ss) few in
    s ∙ ap (λ x. x ++ t) (r ∙ ap (λ x. x ++ m) p)
    ∙ append_assoc (old ++ (f ++ h)) m t ∙ append_assoc old (f ++ h) (m ++ t)
    ∙ ap (λ x. old ++ (f ++ x)) (sym (append_assoc h m t)) ∙ ap (λ x. old ++ (f ++ ((x ++ m) ++ t))) (sym e)
    ∙ sym (append_assoc old (0 ∷ 0 ∷ 0xB1 ∷ 0x70 ∷ []) (canon (metadata_of ss)))

-- The run of what was added to nothing, behind the place of a header, is the response's.
pub fields_run : (v : Version) (ss : List (List ℕ)) (more run : List ℕ) → All IsUtf8 ss → more ≡ ([] ++ 0 ∷ 0 ∷ 0xB1 ∷ 0x70 ∷ []) ++ canon (metadata_of ss) → length more ≤ 65537 → run ≡ written_run (drop 2 more)
    → IsRun v (fields_said ss) run × (fits v (fields_said ss) ≡ true)
unfolding response_spelling
fields_run v ss more run u e few r =
    let m = fields_said ss in
    let b : List ℕ = (0xB1 ∷ 0x70 ∷ []) ++ canon (metadata_of ss) in
    let is : more ≡ 0 ∷ 0 ∷ b = e in
    let short : length b ≤ 65536 = omega (arith, few, ap length is) in
    let adds : Adds (form_put v (response_contents m)) [] b = cells_added v (λ x. contents SUCCESS (x ∷ []) []) 0x70 (metadata_of ss) (metadata_of ss) [] (0xB1 ∷ 0x70 ∷ []) b (omega arith) (λ x h. rw h refl) refl refl refl (good ss u) (deep ss) (bare ss) in
    let t = appended (form_put v (response_contents m)) [] b adds short in
    let said : response_spelling v m ≡ Ok b = t.1 ∙ ap Ok (sym t.2) in
    let back = (response_reads_back v m b (a_cell v ss u) said).0 in
    (r ∙ ap (λ x. written_run (drop 2 x)) is ∙ sym (ap run_of_result said), said_fits v m b said back)

-- Names that are added one after another.
names_more : (ss : List (List ℕ)) (i : ℕ) (d : List ℕ) → i < length ss → canon_all (names_in (take (suc i) ss)) ≡ canon_all (names_in (take i ss)) ++ text_bytes (get_or ss i d)
names_more [] i d h = absurd (omega arith)
names_more (s ∷ ss) zero d h = append-nil (text_bytes s)
names_more (s ∷ ss) (suc i) d h =
    ap (λ x. text_bytes s ++ x) (names_more ss i d (omega arith)) ∙ sym (append_assoc (text_bytes s) (canon_all (names_in (take i ss))) (text_bytes (get_or ss i d)))

pub one_named : (ss : List (List ℕ)) (i : ℕ) (t old a b : List ℕ) → i < length ss → t ≡ get_or ss i [] → a ≡ old ++ canon_all (names_in (take i ss)) → b ≡ a ++ text_bytes t → b ≡ old ++ canon_all (names_in (take (i + 1) ss))
one_named ss i t old a b h e p q =
    rw add-one (q ∙ ap (λ x. a ++ text_bytes x) e ∙ ap (λ x. x ++ text_bytes (get_or ss i [])) p
    ∙ append_assoc old (canon_all (names_in (take i ss))) (text_bytes (get_or ss i [])) ∙ ap (λ x. old ++ x) (sym (names_more ss i [] h)))

-- they are texts, as each that was added
pub texts_more : (ss : List (List ℕ)) (i : ℕ) (t : List ℕ) → i < length ss → t ≡ get_or ss i [] → IsUtf8 t → All IsUtf8 (take i ss) → All IsUtf8 (take (i + 1) ss)
texts_more ss i t h e u all = rw add-one (go ss i h (subst IsUtf8 e u) all)
  where
    go : (ss : List (List ℕ)) (i : ℕ) → i < length ss → IsUtf8 (get_or ss i []) → All IsUtf8 (take i ss) → All IsUtf8 (take (suc i) ss)
    go [] i h u all k d l = absurd (omega arith)
    go (s ∷ ss) zero h u all zero d l = u
    go (s ∷ ss) zero h u all (suc k) d l = absurd (omega (arith, l))
    go (s ∷ ss) (suc i) h u all zero d l = all 0 d (omega arith)
    go (s ∷ ss) (suc i) h u all (suc k) d l = go ss i (omega arith) u (λ n c m. all (suc n) c (omega (arith, m))) k d (omega (arith, l))
