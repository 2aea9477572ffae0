-- Of bytes one thing is said: a world's steps are a function, and so is what the lines of a script do.
use Rattle.std.proofs.Common.{◌≡◌, refl, sym, ap, ◌∙◌, subst, true, false, Bool, Result, Ok, Err, Option, Some, None, List, [], ◌∷◌, ◌++◌, ℕ, append_assoc, inl, inr, string_bytes, option_map}
use Rattle.std.proofs.lemmas.List.{append-nil}
use Rattle.server_session.specs.Prelude.{Setting}
use Rattle.cli_scripts.specs.Prelude.{line_of, filled_lines, lines_read, LineView}
use Rattle.world.specs.Prelude.{World, Event, Seen, Refusal, empty}
use Rattle.cli_replay.specs.declared.script.Replayed.{Replayed}
use Rattle.cli_replay.specs.Prelude.{Came, moves, code_of, repeats, event_at, serving, Takes, Moves, stays, moves_on, Done, Does, line_of_note, Runs, starts, runs_on, Says, SaysScript, unreadable_line, report_text}

abbrev Step : Type 0
Step = Result (World × Seen) Refusal

-- what an event comes to is one thing
takes_one : (S : Setting) (w : World) (e : Event) (a b : Came) (x y : World) → Takes S w e a x → Takes S w e b y → (a ≡ b) × (x ≡ y)
takes_one S w e (Ok seen) (Ok other) x y h k =
    let same : ◌≡◌ {A = Step} (Ok (x, seen)) (Ok (y, other)) = sym h.steps ∙ k.steps in
    (ap (seen_at seen) same, ap (world_at x) same)
  where
    world_at : World → Step → World
    world_at d (Ok z) = z.0
    world_at d (Err r) = d

    seen_at : Seen → Step → Came
    seen_at d (Ok z) = Ok z.1
    seen_at d (Err r) = Ok d
takes_one S w e (Ok seen) (Err r) x y h k = let bad : ◌≡◌ {A = Step} (Ok (x, seen)) (Err r) = sym h.steps ∙ k.0 in absurd cc
takes_one S w e (Err r) (Ok seen) x y h k = let bad : ◌≡◌ {A = Step} (Ok (y, seen)) (Err r) = sym k.steps ∙ h.0 in absurd cc
takes_one S w e (Err r) (Err q) x y h k =
    let same : ◌≡◌ {A = Step} (Err r) (Err q) = sym h.0 ∙ k.0 in
    (ap (refusal_at r) same, h.1 ∙ sym k.1)
  where
    refusal_at : Refusal → Step → Came
    refusal_at d (Ok z) = Err d
    refusal_at d (Err z) = Err z

-- an event that is done until it moves nothing, by its first time
data Ends (S : Setting) (e : Event) (code : Option (List ℕ)) (last : World) : World → Type 0 where
  stops : (w : World) (a : Came) → Takes S w e a last → moves a ≡ false → code ≡ code_of a → Ends S e code last w
  goes : (w w2 : World) (a : Came) → Takes S w e a w2 → moves a ≡ true → Ends S e code last w2 → Ends S e code last w

ends_from : (S : Setting) (e : Event) (w : World) (code : Option (List ℕ)) (last : World) {w2 : World} → Moves S e w w2 → Ends S e code last w2 → Ends S e code last w
ends_from S e w code last stays h = h
ends_from S e w code last (moves_on w2 w3 a m t on) h = ends_from S e w code last m (goes w2 w3 a t on h)

one_end : (S : Setting) (e : Event) (c d : Option (List ℕ)) (x y : World) {w : World} → Ends S e c x w → Ends S e d y w → (c ≡ d) × (x ≡ y)
one_end S e c d x y (stops w a t off is) (stops v b u ended same) =
    let p = takes_one S w e a b x y t u in (is ∙ ap code_of p.0 ∙ sym same, p.1)
one_end S e c d x y (stops w a t off is) (goes v w2 b u on k) =
    let p = takes_one S w e a b x w2 t u in
    let bad : false ≡ true = sym off ∙ ap moves p.0 ∙ on in absurd cc
one_end S e c d x y (goes w w2 a t on h) (stops v b u off is) =
    let p = takes_one S w e a b w2 y t u in
    let bad : true ≡ false = sym on ∙ ap moves p.0 ∙ off in absurd cc
one_end S e c d x y (goes w w2 a t on h) (goes v w3 b u moved k) =
    let p = takes_one S w e a b w2 w3 t u in one_end S e c d x y (subst (Ends S e c x) p.1 h) k

-- what is done for a line is one thing
done_one : (b : Bool) (S : Setting) (w : World) (e : Event) (c d : Option (List ℕ)) (x y : World) → Done b S w e c x → Done b S w e d y → (c ≡ d) × (x ≡ y)
done_one true S w e c d x y h k =
    one_end S e c d x y (ends_from S e w c x h.moved (stops h.before h.came h.took h.still h.noted)) (ends_from S e w d y k.moved (stops k.before k.came k.took k.still k.noted))
done_one false S w e c d x y h k =
    let p = takes_one S w e h.0 k.0 x y h.1 k.1 in (h.2 ∙ ap code_of p.0 ∙ sym k.2, p.1)

-- lines in order, by the first
RunsOn : Setting → World → List (ℕ × LineView) → List ℕ → World → Type 0
RunsOn S w [] text last = (text ≡ []) × (last ≡ w)
RunsOn S w (l ∷ ls) text last = (code : Option (List ℕ)) × (w2 : World) × (rest : List ℕ) × Does S w l.1 code w2 × RunsOn S w2 ls rest last × (text ≡ line_of_note l.0 code ++ rest)

on_more : (S : Setting) (ls : List (ℕ × LineView)) (w : World) (text : List ℕ) (w2 : World) (n : ℕ) (l : LineView) (code : Option (List ℕ)) (last : World)
    → RunsOn S w ls text w2 → Does S w2 l code last → RunsOn S w (ls ++ (n, l) ∷ []) (text ++ line_of_note n code) last
unfolding RunsOn
on_more S [] w text w2 n l code last h d =
    (code, last, [], subst (λ z. Does S z l code last) h.1 d, (refl, refl), ap (λ z. z ++ line_of_note n code) h.0 ∙ sym (append-nil (line_of_note n code)))
on_more S (m ∷ ls) w text w2 n l code last h d = (
  h.0,
  h.1,
  h.2 ++ line_of_note n code,
  h.3,
  on_more S ls h.1 h.2 w2 n l code last h.4 d,
  ap (λ z. z ++ line_of_note n code) h.5 ∙ append_assoc (line_of_note m.0 h.0) h.2 (line_of_note n code),
)

in_front : (S : Setting) (w : World) {ls : List (ℕ × LineView)} {text : List ℕ} {last : World} → Runs S w ls text last → RunsOn S w ls text last
unfolding RunsOn
in_front S w starts = (refl, refl)
in_front S w (runs_on lines text w2 w3 n l code r d) = on_more S lines w text w2 n l code w3 (in_front S w r) d

runs_one : (S : Setting) (ls : List (ℕ × LineView)) (w : World) (t u : List ℕ) (x y : World) → RunsOn S w ls t x → RunsOn S w ls u y → (t ≡ u) × (x ≡ y)
unfolding RunsOn
runs_one S [] w t u x y h k = (h.0 ∙ sym k.0, h.1 ∙ sym k.1)
runs_one S (l ∷ ls) w t u x y h k =
    let p = done_one (repeats l.1) S w (event_at w l.1) h.0 k.0 h.1 k.1 h.3 k.3 in
    let q = runs_one S ls k.1 h.2 k.2 x y (subst (λ z. RunsOn S z ls h.2 x) p.1 h.4) k.4 in
    (h.5 ∙ ap (λ z. line_of_note l.0 z ++ h.2) p.0 ∙ ap (λ z. line_of_note l.0 k.0 ++ z) q.0 ∙ sym k.5, q.1)

pub one_said : (b : List ℕ) (r s : Replayed) → SaysScript b r → SaysScript b s → Says (string_bytes s.out) (string_bytes s.err) s.status r
one_said b r s (inl h) (inl k) =
    let n : h.0 ≡ k.0 = let s : ◌≡◌ {A = Option ℕ} (Some h.0) (Some k.0) = sym h.1 ∙ k.1 in cc in
    record { out = h.2.out ∙ sym k.2.out; err = h.2.err ∙ ap unreadable_line n ∙ sym k.2.err; status = h.2.status ∙ sym k.2.status }
one_said b r s (inl h) (inr k) =
    let bad : ◌≡◌ {A = Option ℕ} None (Some h.0) = ap (option_map (λ l. l.0)) (sym k.readable) ∙ h.1 in absurd cc
one_said b r s (inr h) (inl k) =
    let bad : ◌≡◌ {A = Option ℕ} None (Some k.0) = ap (option_map (λ l. l.0)) (sym h.readable) ∙ k.1 in absurd cc
one_said b r s (inr h) (inr k) =
    let p = runs_one serving (lines_read line_of (filled_lines b)) (empty []) h.text k.text h.after k.after (in_front serving (empty []) h.runs) (in_front serving (empty []) k.runs) in
    record { out = h.says.out ∙ ap (λ z. z ++ report_text h.after) p.0 ∙ ap (λ z. k.text ++ report_text z) p.1 ∙ sym k.says.out; err = h.says.err ∙ sym k.says.err; status = h.says.status ∙ sym k.says.status }
