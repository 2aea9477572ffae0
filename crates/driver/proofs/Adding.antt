-- The requests of queries, one after the other.
use Rattle.std.proofs.Common.{◌≡◌, refl, sym, ◌∙◌, ap, ℕ, suc, ◌+◌, ◌<◌, List, [], ◌∷◌, ◌++◌, length, map, take, get_or, append_assoc, arith}
use Rattle.std.proofs.lemmas.List.{map-append}
use Rattle.std.proofs.Math.Seq.{take-suc}
use Rattle.messages.specs.declared.Mode.{Mode}
use Rattle.messages.specs.declared.Request.{Request}
use Rattle.messages.specs.Prelude.{RequestView, request_view}
use Rattle.driver.specs.declared.queries.Query.{Query}
use Rattle.driver.specs.Prelude.{QueryView, query_view, query_run, asks_of}

asks_more : (mode : Mode) (rows : RequestView) (qs : List QueryView) (q : QueryView) → asks_of mode rows (qs ++ q ∷ []) ≡ asks_of mode rows qs ++ query_run mode q ∷ rows ∷ []
asks_more mode rows [] q = refl
asks_more mode rows (p ∷ qs) q = ap (λ l. query_run mode p ∷ rows ∷ l) (asks_more mode rows qs q)

take_more : (qs : List Query) (i : ℕ) (q : Query) → i < length qs → q ≡ get_or qs i q → take (i + 1) qs ≡ take i qs ++ q ∷ []
take_more qs i q l e =
    let on : i + 1 ≡ suc i = omega arith in
    ap (λ n. take n qs) on ∙ take-suc qs i q l ∙ ap (λ z. take i qs ++ z ∷ []) (sym e)

pub one_added : (mode : Mode) (rows : RequestView) (before : List RequestView) (qs : List Query) (i : ℕ) (q : Query) (xs ys zs : List Request) (run asked : Request) → i < length qs → q ≡ get_or qs i q
    → map request_view xs ≡ before ++ asks_of mode rows (map query_view (take i qs)) → ys ≡ xs ++ run ∷ [] → request_view run ≡ query_run mode (query_view q) → zs ≡ ys ++ asked ∷ [] → request_view asked ≡ rows
    → map request_view zs ≡ before ++ asks_of mode rows (map query_view (take (i + 1) qs))
one_added mode rows before qs i q xs ys zs run asked l e so y r z a =
    let some = asks_of mode rows (map query_view (take i qs)) in
    let two : map request_view zs ≡ (map request_view xs ++ request_view run ∷ []) ++ request_view asked ∷ [] =
    ap (map request_view) z ∙ map-append request_view ys (asked ∷ []) ∙ ap (λ l. l ++ request_view asked ∷ []) (ap (map request_view) y ∙ map-append request_view xs (run ∷ [])) in
    two ∙ append_assoc (map request_view xs) (request_view run ∷ []) (request_view asked ∷ [])
    ∙ ap (λ l. map request_view xs ++ l ∷ request_view asked ∷ []) r ∙ ap (λ l. map request_view xs ++ query_run mode (query_view q) ∷ l ∷ []) a
    ∙ ap (λ l. l ++ query_run mode (query_view q) ∷ rows ∷ []) so ∙ append_assoc before some (query_run mode (query_view q) ∷ rows ∷ [])
    ∙ ap (λ l. before ++ l) (sym (asks_more mode rows (map query_view (take i qs)) (query_view q)))
    ∙ ap (λ l. before ++ asks_of mode rows l) (sym (map-append query_view (take i qs) (q ∷ [])))
    ∙ ap (λ l. before ++ asks_of mode rows (map query_view l)) (sym (take_more qs i q l e))
