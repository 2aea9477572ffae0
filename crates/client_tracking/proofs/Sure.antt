-- What each fate says of what was told.
use Rattle.std.proofs.Common.{◌≡◌, refl, ap, subst, ℕ, zero, suc, Bool, true, false, Some, List, [], ◌∷◌, length, arith}
use Rattle.client_tracking.specs.declared.attempts.Tells.{Tells}
use Rattle.client_tracking.specs.declared.attempts.Retry.{Retry}
use Rattle.client_tracking.specs.declared.attempts.Fate.{Fate}
use Rattle.client_tracking.specs.Fates.{fate_of, AllOpen, AllNothing, EndsWith, Says, FatesSay}

-- The meaning of each fate under Tokens; true: after an attempt that may have committed.
abbrev Known : Bool → ℕ → List Tells → Fate → Type 0
Known false n told f = Says Retry.Tokens n told f
Known true n told Fate.Refused = ⊥
Known true n told Fate.Absent = ⊥
Known true n told Fate.Open = (length told ≡ n) × AllOpen told
Known true n told f = Says Retry.Tokens n told f

ends_at_once : (n : ℕ) (t : Tells) (P : List Tells → Type 0) → P [] → EndsWith (suc n) (t ∷ []) t P
ends_at_once n t P p = record { before = []; last = refl; so = p; within = omega arith }

ends_behind : (n : ℕ) (t x : Tells) (told : List Tells) (P : List Tells → Type 0) → ((before : List Tells) → P before → P (t ∷ before)) → EndsWith n told x P → EndsWith (suc n) (t ∷ told) x P
ends_behind n t x told P more e = record { before = t ∷ e.before; last = ap (λ z. t ∷ z) e.last; so = more e.before e.so; within = let l = e.within in omega (arith, l) }

one_longer : (n : ℕ) (told : List Tells) (t : Tells) → length told ≡ n → length (t ∷ told) ≡ suc n
one_longer n told t e = ap suc e

-- behind one that tells nothing
behind_nothing : (d : Bool) (n : ℕ) (told : List Tells) (f : Fate) → Known d n told f → Known d (suc n) (Tells.Nothing ∷ told) f
behind_nothing false n told Fate.Stands k = ends_behind n Tells.Nothing Tells.Stands told AllOpen (λ _ o. o) k
behind_nothing false n told Fate.Clash k = ends_behind n Tells.Nothing Tells.Clash told AllOpen (λ _ o. o) k
behind_nothing false n told Fate.Refused k = ends_behind n Tells.Nothing Tells.Refused told AllNothing (λ _ o. o) k
behind_nothing false n told Fate.Open k = (one_longer n told Tells.Nothing k.0, k.1)
behind_nothing false n told Fate.Absent k = (one_longer n told Tells.Nothing k.0, k.1)
behind_nothing true n told Fate.Stands k = ends_behind n Tells.Nothing Tells.Stands told AllOpen (λ _ o. o) k
behind_nothing true n told Fate.Clash k = ends_behind n Tells.Nothing Tells.Clash told AllOpen (λ _ o. o) k
behind_nothing true n told Fate.Refused k = absurd k
behind_nothing true n told Fate.Open k = (one_longer n told Tells.Nothing k.0, k.1)
behind_nothing true n told Fate.Absent k = absurd k

-- behind one that tells a doubt
behind_doubt : (d : Bool) (n : ℕ) (told : List Tells) (f : Fate) → Known true n told f → Known d (suc n) (Tells.Doubt ∷ told) f
behind_doubt false n told Fate.Stands k = ends_behind n Tells.Doubt Tells.Stands told AllOpen (λ _ o. o) k
behind_doubt false n told Fate.Clash k = ends_behind n Tells.Doubt Tells.Clash told AllOpen (λ _ o. o) k
behind_doubt false n told Fate.Refused k = absurd k
behind_doubt false n told Fate.Open k = (one_longer n told Tells.Doubt k.0, (tt, k.1))
behind_doubt false n told Fate.Absent k = absurd k
behind_doubt true n told Fate.Stands k = ends_behind n Tells.Doubt Tells.Stands told AllOpen (λ _ o. o) k
behind_doubt true n told Fate.Clash k = ends_behind n Tells.Doubt Tells.Clash told AllOpen (λ _ o. o) k
behind_doubt true n told Fate.Refused k = absurd k
behind_doubt true n told Fate.Open k = (one_longer n told Tells.Doubt k.0, k.1)
behind_doubt true n told Fate.Absent k = absurd k

-- behind a refusal that itself is behind a doubt
behind_refused : (n : ℕ) (told : List Tells) (f : Fate) → Known true n told f → Known true (suc n) (Tells.Refused ∷ told) f
behind_refused n told Fate.Stands k = ends_behind n Tells.Refused Tells.Stands told AllOpen (λ _ o. o) k
behind_refused n told Fate.Clash k = ends_behind n Tells.Refused Tells.Clash told AllOpen (λ _ o. o) k
behind_refused n told Fate.Refused k = absurd k
behind_refused n told Fate.Open k = (one_longer n told Tells.Refused k.0, k.1)
behind_refused n told Fate.Absent k = absurd k

fate_is : (a b : Fate) → Some a ≡ Some b → a ≡ b
fate_is a b e = cc

-- under Tokens what is known is what is said
says : (d : Bool) (n : ℕ) (told : List Tells) (f : Fate) → fate_of Retry.Tokens d n told ≡ Some f → Known d n told f
says true zero [] f e = subst (Known true 0 []) (fate_is Fate.Open f e) (refl, tt)
says false zero [] f e = subst (Known false 0 []) (fate_is Fate.Absent f e) (refl, tt)
says true zero (t ∷ told) f e = cc
says false zero (t ∷ told) f e = cc
says true (suc n) [] f e = cc
says false (suc n) [] f e = cc
says true (suc n) (Tells.Stands ∷ []) f e = subst (Known true (suc n) (Tells.Stands ∷ [])) (fate_is Fate.Stands f e) (ends_at_once n Tells.Stands AllOpen tt)
says false (suc n) (Tells.Stands ∷ []) f e = subst (Known false (suc n) (Tells.Stands ∷ [])) (fate_is Fate.Stands f e) (ends_at_once n Tells.Stands AllOpen tt)
says true (suc n) (Tells.Stands ∷ t ∷ told) f e = cc
says false (suc n) (Tells.Stands ∷ t ∷ told) f e = cc
says true (suc n) (Tells.Clash ∷ []) f e = subst (Known true (suc n) (Tells.Clash ∷ [])) (fate_is Fate.Clash f e) (ends_at_once n Tells.Clash AllOpen tt)
says false (suc n) (Tells.Clash ∷ []) f e = subst (Known false (suc n) (Tells.Clash ∷ [])) (fate_is Fate.Clash f e) (ends_at_once n Tells.Clash AllOpen tt)
says true (suc n) (Tells.Clash ∷ t ∷ told) f e = cc
says false (suc n) (Tells.Clash ∷ t ∷ told) f e = cc
says false (suc n) (Tells.Refused ∷ []) f e = subst (Known false (suc n) (Tells.Refused ∷ [])) (fate_is Fate.Refused f e) (ends_at_once n Tells.Refused AllNothing tt)
says false (suc n) (Tells.Refused ∷ t ∷ told) f e = cc
says true (suc n) (Tells.Refused ∷ told) f e = behind_refused n told f (says true n told f e)
says true (suc n) (Tells.Nothing ∷ told) f e = behind_nothing true n told f (says true n told f e)
says false (suc n) (Tells.Nothing ∷ told) f e = behind_nothing false n told f (says false n told f e)
says true (suc n) (Tells.Doubt ∷ told) f e = behind_doubt true n told f (says true n told f e)
says false (suc n) (Tells.Doubt ∷ told) f e = behind_doubt false n told f (says true n told f e)

-- under Never: an attempt that reports nothing comes before the others
never_more : (n : ℕ) (told : List Tells) (f : Fate) → Says Retry.Never n told f → Says Retry.Never (suc n) (Tells.Nothing ∷ told) f
never_more n told Fate.Stands k = ends_behind n Tells.Nothing Tells.Stands told AllNothing (λ _ o. o) k
never_more n told Fate.Clash k = ends_behind n Tells.Nothing Tells.Clash told AllNothing (λ _ o. o) k
never_more n told Fate.Refused k = ends_behind n Tells.Nothing Tells.Refused told AllNothing (λ _ o. o) k
never_more n told Fate.Open k = ends_behind n Tells.Nothing Tells.Doubt told AllNothing (λ _ o. o) k
never_more n told Fate.Absent k = (one_longer n told Tells.Nothing k.0, k.1)

-- under Never what is known is what is said
never_says : (n : ℕ) (told : List Tells) (f : Fate) → fate_of Retry.Never false n told ≡ Some f → Says Retry.Never n told f
never_says zero [] f e = subst (Says Retry.Never 0 []) (fate_is Fate.Absent f e) (refl, tt)
never_says zero (t ∷ told) f e = cc
never_says (suc n) [] f e = cc
never_says (suc n) (Tells.Stands ∷ []) f e = subst (Says Retry.Never (suc n) (Tells.Stands ∷ [])) (fate_is Fate.Stands f e) (ends_at_once n Tells.Stands AllNothing tt)
never_says (suc n) (Tells.Stands ∷ t ∷ told) f e = cc
never_says (suc n) (Tells.Clash ∷ []) f e = subst (Says Retry.Never (suc n) (Tells.Clash ∷ [])) (fate_is Fate.Clash f e) (ends_at_once n Tells.Clash AllNothing tt)
never_says (suc n) (Tells.Clash ∷ t ∷ told) f e = cc
never_says (suc n) (Tells.Refused ∷ []) f e = subst (Says Retry.Never (suc n) (Tells.Refused ∷ [])) (fate_is Fate.Refused f e) (ends_at_once n Tells.Refused AllNothing tt)
never_says (suc n) (Tells.Refused ∷ t ∷ told) f e = cc
never_says (suc n) (Tells.Doubt ∷ []) f e = subst (Says Retry.Never (suc n) (Tells.Doubt ∷ [])) (fate_is Fate.Open f e) (ends_at_once n Tells.Doubt AllNothing tt)
never_says (suc n) (Tells.Doubt ∷ t ∷ told) f e = cc
never_says (suc n) (Tells.Nothing ∷ told) f e = never_more n told f (never_says n told f e)

pub fates_say : FatesSay
fates_say Retry.Tokens tries told f e = says false tries told f e
fates_say Retry.Never tries told f e = never_says tries told f e
