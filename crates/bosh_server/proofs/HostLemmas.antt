-- Lists of hosts of which each passes a test.
use Rattle.std.proofs.Common.{◌≡◌, ◌++◌, ◌∷◌, ◌&&◌, [], List, Bool, true, ap, ◌∙◌}
use Rattle.std.specs.List.{list_all}
use Rattle.std.proofs.lemmas.List.Folds.{list_all-append}

-- one more that passes
pub serve_more : {X : Type 0} (p : X → Bool) (xs : List X) (x : X) → list_all p xs ≡ true → p x ≡ true → list_all p (xs ++ x ∷ []) ≡ true
serve_more p xs x all one = list_all-append p xs (x ∷ []) ∙ ap (λ b. b && (p x && true)) all ∙ ap (λ b. b && true) one
