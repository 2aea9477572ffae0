-- The head of a list or a dictionary, whose count is read.
use Rattle.packstream.proofs.Words.{◌≡◌, ℕ, List, Option, Some, None, Ok, refl, Size, Here, Tree, Read, size_at, list_at, dict_at}

pub list_head : (inner : Option (List ℕ → Read Tree)) (left : ℕ) (size : Size) (rest after : List ℕ) (n : ℕ) → size_at left size rest ≡ Ok (n, after) → list_at inner left size rest ≡ list_at inner left (Here n) after
unfolding list_at size_at
list_head None left size rest after n e = refl
list_head (Some read) left size rest after n e = rw e refl

pub dict_head : (inner : Option (List ℕ → Read Tree)) (left : ℕ) (size : Size) (rest after : List ℕ) (n : ℕ) → size_at left size rest ≡ Ok (n, after) → dict_at inner left size rest ≡ dict_at inner left (Here n) after
unfolding dict_at size_at
dict_head None left size rest after n e = refl
dict_head (Some read) left size rest after n e = rw e refl

pub ruleset heads = (list_head, dict_head)
