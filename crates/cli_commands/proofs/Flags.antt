-- No command has a flag.
use Rattle.std.proofs.Common.{◌≡◌, refl, ⊎_elim, ℕ, Bool, true, false, cond, List, [], ◌∷◌, IsErr, IfOk, Option, Some, None, Result, Ok, Err, codes, bytes_eq}
use Rattle.std.specs.List.{list_any}
use Rattle.std.proofs.lemmas.Bool.{or_cases, eqb-true, false≢true}
use Rattle.cli_scripts.specs.Prelude.{number_of}
use Rattle.cli_commands.specs.declared.arguments.Wanted.{Wanted}
use Rattle.cli_commands.specs.declared.arguments.Wanted.TheVariants as want
use Rattle.cli_commands.specs.Asked.{Text, Ask, ToAnswer, ToReplay, ToLoop, WrongWord, is_flag, has_flag, plain_at, port_at, count_at, version_at, said_at, word_at, plain_word, port_word, count_word, version_word, ends_at, ◌>>=◌, asked_check, asked_serve, asked_shell, asked_by, asked_words}

-- one of the words is a flag
abbrev HasFlag : List Text → Type 0
HasFlag words = list_any is_flag words ≡ true

-- a flag says nothing that is wanted
abbrev TakesNone : {A : Type 0} → (Text → Option A) → Type 0
TakesNone says = (w : Text) → is_flag w ≡ true → says w ≡ None

said_none : {A : Type 0} (n : ℕ) (x : Wanted) (w : Text) (rest : List Text) (o : Option A) → o ≡ None → IfOk (said_at n x w rest o) (λ p. HasFlag p.1)
said_none n x w rest o e = rw e tt

said_more : {A : Type 0} (n : ℕ) (x : Wanted) (w : Text) (rest : List Text) (o : Option A) → HasFlag rest → IfOk (said_at n x w rest o) (λ p. HasFlag p.1)
said_more n x w rest (Some a) h = h
said_more n x w rest None h = tt

-- a word that is read leaves the flag among the words after it
word_flag : {A : Type 0} (says : Text → Option A) (n : ℕ) (x : Wanted) (words : List Text) → TakesNone says → HasFlag words → IfOk (word_at says n x words) (λ p. HasFlag p.1)
word_flag says n x [] none h = tt
word_flag says n x (w ∷ rest) none h =
    ⊎_elim (λ f. said_none n x w rest (says w) (none w f)) (λ r. said_more n x w rest (says w) r) (or_cases (is_flag w) (list_any is_flag rest) h)

bind_wrong : {A B : Type 0} (r : Result A WrongWord) (P : A → Type 0) (f : A → Result B WrongWord) → IfOk r P → ((a : A) → P a → IsErr (f a)) → IsErr (r >>= f)
bind_wrong (Ok a) P f h g = g a h
bind_wrong (Err w) P f h g = refl

ends_wrong : {B : Type 0} (n : ℕ) (words : List Text) (f : Unit {0} → Result B WrongWord) → HasFlag words → IsErr (ends_at n words >>= f)
ends_wrong n [] f h = absurd (false≢true h)
ends_wrong n (w ∷ rest) f h = refl

plain_none : TakesNone plain_at
plain_none w h = rw h refl

number_none : TakesNone number_of
number_none [] h = absurd (false≢true h)
number_none (x ∷ []) h = absurd (false≢true h)
number_none (x ∷ y ∷ rest) h = rw (eqb-true x 45 h) refl

port_none : TakesNone port_at
port_none w h = rw (number_none w h) refl

count_none : TakesNone count_at
count_none w h = rw (number_none w h) refl

version_none : TakesNone version_at
version_none [] h = absurd (false≢true h)
version_none (x ∷ []) h = absurd (false≢true h)
version_none (x ∷ y ∷ rest) h = rw (eqb-true x 45 h) refl

one_wrong : (x : Wanted) (words : List Text) (f : Text → Ask) → HasFlag words → IsErr (plain_word 2 x words >>= λ a. ends_at 3 a.1 >>= λ end. Ok (f a.0))
unfolding plain_word
one_wrong x words f h =
    bind_wrong (word_at plain_at 2 x words) (λ p. HasFlag p.1) _ (word_flag plain_at 2 x words plain_none h) (λ p k. ends_wrong 3 p.1 _ k)

check_wrong : (words : List Text) → HasFlag words → IsErr (asked_check words)
unfolding version_word plain_word
check_wrong words h =
    bind_wrong (word_at version_at 2 want.Version words) (λ p. HasFlag p.1) _ (word_flag version_at 2 want.Version words version_none h)
    (λ p k. bind_wrong (word_at plain_at 3 want.Hex p.1) (λ p. HasFlag p.1) _ (word_flag plain_at 3 want.Hex p.1 plain_none k) (λ q m. ends_wrong 4 q.1 _ m))

serve_wrong : (words : List Text) → HasFlag words → IsErr (asked_serve words)
unfolding port_word count_word
serve_wrong words h =
    bind_wrong (word_at port_at 2 want.Port words) (λ p. HasFlag p.1) _ (word_flag port_at 2 want.Port words port_none h)
    (λ p k. bind_wrong (word_at count_at 3 want.Count p.1) (λ p. HasFlag p.1) _ (word_flag count_at 3 want.Count p.1 count_none k) (λ q m. ends_wrong 4 q.1 _ m))

shell_wrong : (words : List Text) → HasFlag words → IsErr (asked_shell words)
unfolding plain_word port_word
shell_wrong words h =
    bind_wrong (word_at plain_at 2 want.Host words) (λ p. HasFlag p.1) _ (word_flag plain_at 2 want.Host words plain_none h)
    (λ p k. bind_wrong (word_at port_at 3 want.Port p.1) (λ p. HasFlag p.1) _ (word_flag port_at 3 want.Port p.1 port_none k) (λ q m. ends_wrong 4 q.1 _ m))

either_wrong : (b : Bool) (x y : Result Ask WrongWord) → IsErr x → IsErr y → IsErr (cond b x y)
either_wrong true x y h k = h
either_wrong false x y h k = k

rest_wrong : (name : Text) (rest : List Text) → HasFlag rest → IsErr (asked_by name rest)
rest_wrong name rest h =
    either_wrong (bytes_eq name (codes "answer")) _ _ (one_wrong want.Hex rest ToAnswer h)
    (either_wrong (bytes_eq name (codes "check")) _ _ (check_wrong rest h)
    (either_wrong (bytes_eq name (codes "replay")) _ _ (one_wrong want.File rest ToReplay h)
    (either_wrong (bytes_eq name (codes "loop")) _ _ (one_wrong want.File rest ToLoop h)
    (either_wrong (bytes_eq name (codes "serve")) _ _ (serve_wrong rest h)
    (either_wrong (bytes_eq name (codes "vectors")) _ _ (ends_wrong 2 rest _ h)
    (either_wrong (bytes_eq name (codes "shell")) _ _ (shell_wrong rest h) refl))))))

name_wrong : (name : Text) (rest : List Text) → is_flag name ≡ true → IsErr (asked_by name rest)
name_wrong [] rest h = absurd (false≢true h)
name_wrong (x ∷ []) rest h = absurd (false≢true h)
name_wrong (x ∷ y ∷ more) rest h = rw (eqb-true x 45 h) refl

pub flags_wrong : (words : List Text) → has_flag words ≡ true → IsErr (asked_words words)
flags_wrong [] h = refl
flags_wrong (program ∷ []) h = refl
flags_wrong (program ∷ name ∷ rest) h =
    ⊎_elim (λ f. name_wrong name rest f) (λ r. rest_wrong name rest r) (or_cases (is_flag name) (list_any is_flag rest) h)
