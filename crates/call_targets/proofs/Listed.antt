-- The classes that declare methods, method by method.
use Rattle.std.proofs.Common.{◌≡◌, ℕ, ◌+◌, ◌<◌, ◌≤◌, Bool, true, false, cond, List, [], ◌∷◌, ◌++◌, refl, sym, ap, ◌∙◌, ⊎_elim, arith, Option, Some, None, option_map, slice_get, subst}
use Rattle.std.specs.Map.{lookup}
use Rattle.std.specs.Option.{unwrap_or}
use Rattle.std.specs.declared.alloc.Global.{Global}
use Rattle.std.specs.declared.vec.Vec.{Vec}
use Rattle.std.proofs.lemmas.Bool.{and_parts, cases_lt, eqb-true, false≢true}
use Rattle.std.proofs.lemmas.List.Elements.{Contains-append_left, Contains-push}
use Rattle.ns_base.specs.declared.rows.ClassNo.{ClassNo}
use Rattle.app_model.specs.declared.rows.MethodRow.{MethodRow}
use Rattle.app_model.specs.Hierarchy.{is_abstract}
use Rattle.app_model.specs.Parts.{AppParts}
use Rattle.call_targets.specs.Signatures.{AreDeclared, IsListed, classes_in, classes_with, same_signature}
use Rattle.call_targets.specs.declared.declared.Signature.{Signature}

abbrev pub Lists : Type 0
Lists = List (Signature × Vec ClassNo Global)

abbrev pub signature_of : (name proto : ℕ) → Signature
signature_of name proto = record { name = name; proto = proto }

same_is : (a b : Signature) → same_signature a b ≡ true → b ≡ a
same_is a b e = let p = and_parts _ _ e in let n = eqb-true a.name b.name p.0 in let t = eqb-true a.proto b.proto p.1 in rw n (rw t refl)

itself : (a : Signature) → same_signature a a ≡ true
itself a = grind (arith)

-- a list taken out, one more class, and the list put back
pub list_more : (old mid new : Lists) (signature : Signature) (class : ClassNo) (list : Vec ClassNo Global)
    → ((q : Signature) → lookup (same_signature q) mid ≡ cond (same_signature signature q) None (lookup (same_signature q) old))
    → ((q : Signature) → lookup (same_signature q) new ≡ cond (same_signature signature q) (Some list) (lookup (same_signature q) mid))
    → list.items ≡ classes_in old signature.name signature.proto ++ class ∷ []
    → (name proto : ℕ) → classes_with new name proto ≡ cond (same_signature signature (signature_of name proto)) (Some (classes_in old name proto ++ class ∷ [])) (classes_with old name proto)
list_more old mid new signature class list out back is name proto = by (same_signature signature (signature_of name proto)) refl
  where
    by : (b : Bool) → same_signature signature (signature_of name proto) ≡ b → classes_with new name proto ≡ cond b (Some (classes_in old name proto ++ class ∷ [])) (classes_with old name proto)
    by true e =
        ap (option_map (λ (v : Vec ClassNo Global). v.items)) (back (signature_of name proto) ∙ ap (λ x. cond x (Some list) (lookup (same_signature (signature_of name proto)) mid)) e)
        ∙ ap Some (is ∙ ap (λ (s : Signature). classes_in old s.name s.proto ++ class ∷ []) (sym (same_is signature (signature_of name proto) e)))
    by false e = ap (option_map (λ (v : Vec ClassNo Global). v.items))
        (back (signature_of name proto) ∙ ap (λ x. cond x (Some list) (lookup (same_signature (signature_of name proto)) mid)) e
        ∙ out (signature_of name proto) ∙ ap (λ x. cond x None (lookup (same_signature (signature_of name proto)) old)) e)

-- ---- one more method
module _ (app : AppParts) (n : ℕ) (row : MethodRow) (read : slice_get app.methods n ≡ Some row) where
  pub listed_skip : (lists : Lists) → is_abstract row.flags ≡ true → AreDeclared app n lists → AreDeclared app (n + 1) lists
  listed_skip lists off before m method lt e conc = ⊎_elim
      (λ (less : m < n). before m method less e conc)
      (λ (ge : n ≤ m). absurd (let same : n ≡ m = omega (arith, lt, ge) in let f : row ≡ method = (let g = read in cc) in false≢true (sym conc ∙ rw (← f) off)))
      (cases_lt m n)

  pub listed_more : (old new : Lists)
      → ((name proto : ℕ) → classes_with new name proto ≡ cond (same_signature (signature_of row.name.0 row.proto.0) (signature_of name proto)) (Some (classes_in old name proto ++ row.class ∷ [])) (classes_with old name proto))
      → AreDeclared app n old → AreDeclared app (n + 1) new
  listed_more old new is before m method lt e conc = ⊎_elim
      (λ (less : m < n). kept method (before m method less e conc))
      (λ (ge : n ≤ m). let same : n ≡ m = omega (arith, lt, ge) in let f : row ≡ method = (let g = read in cc) in subst (IsListed new) f here)
      (cases_lt m n)
    where
      here : IsListed new row
      here = record {
        list = classes_in old row.name.0 row.proto.0 ++ row.class ∷ [];
        is = is row.name.0 row.proto.0 ∙ rw (itself (signature_of row.name.0 row.proto.0)) refl;
        has = Contains-push (classes_in old row.name.0 row.proto.0) row.class;
      }

      kept : (method : MethodRow) → IsListed old method → IsListed new method
      kept method own = by (same_signature (signature_of row.name.0 row.proto.0) (signature_of method.name.0 method.proto.0)) refl
        where
          by : (b : Bool) → same_signature (signature_of row.name.0 row.proto.0) (signature_of method.name.0 method.proto.0) ≡ b → IsListed new method
          by true e = record {
            list = own.list ++ row.class ∷ [];
            is = is method.name.0 method.proto.0 ∙ rw e (ap (λ (o : Option (List ClassNo)). Some (unwrap_or o [] ++ row.class ∷ [])) own.is);
            has = Contains-append_left own.list (row.class ∷ []) method.class own.has;
          }
          by false e = record {
            list = own.list;
            is = is method.name.0 method.proto.0 ∙ rw e own.is;
            has = own.has;
          }
