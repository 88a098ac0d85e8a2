-- Steps that are read one by one.
use Rattle.std.proofs.Common.{◌≡◌, ℕ, List, [], ◌∷◌, ◌++◌, Option, Some, None, refl, sym, ap, ◌∙◌, append_assoc}
use Rattle.std.specs.Prelude.{option_map}
use Rattle.cert_line.specs.Reading.{◌>>=◌, pieces}
use Rattle.path_reader.specs.Reading.{step_in, steps_in}
use Rattle.report_path.specs.declared.report.Step.{Step}

regroup : (front : List Step) (a : Step) (read : Option (List Step)) → option_map (λ more. front ++ more) (read >>= λ ss. Some (a ∷ ss)) ≡ option_map (λ more. (front ++ a ∷ []) ++ more) read
regroup front a (Some ss) = ap Some (simp append_assoc)
regroup front a None = refl

pub one_more : (front : List Step) (f : List ℕ) (a : Step) (fs left : List (List ℕ)) (total : Option (List Step)) → left ≡ f ∷ fs → Some a ≡ step_in (pieces 47 f) → option_map (λ more. front ++ more) (steps_in left) ≡ total → option_map (λ more. (front ++ a ∷ []) ++ more) (steps_in fs) ≡ total
unfolding steps_in
one_more front f a fs left total cut e so_far = sym (regroup front a (steps_in fs)) ∙ rw (cut, ← e) at so_far

pub no_step : (front : List Step) (f : List ℕ) (fs left : List (List ℕ)) (total : Option (List Step)) → left ≡ f ∷ fs → None ≡ step_in (pieces 47 f) → option_map (λ more. front ++ more) (steps_in left) ≡ total → None ≡ total
unfolding steps_in
no_step front f fs left total cut e so_far = rw (cut, ← e) at so_far
