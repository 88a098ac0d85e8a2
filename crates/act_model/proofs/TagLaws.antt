-- The order of tags.
use Rattle.std.proofs.Common.{◌≡◌, ◌≢◌, true, false, refl, subst}
use Rattle.app_model.specs.declared.tag.Tag.{Tag}
use Rattle.app_model.specs.declared.tag.Tag.TheVariants.{Bot, Zero, Solid, Held, Any, Field, New, Mixed}
use Rattle.act_model.specs.Tags.{Under, itself, bot_all, zero_any, solid_any, held_any, all_mixed, IsJoin, at_most_any}

pub IsJoin-same : (a : Tag) → IsJoin a a a
IsJoin-same a = record { left = itself; right = itself; least = λ t l r. l }

pub IsJoin-bot_left : (b : Tag) → IsJoin Bot b b
IsJoin-bot_left b = record { left = bot_all; right = itself; least = λ t l r. r }

pub IsJoin-bot_right : (a : Tag) → IsJoin a Bot a
IsJoin-bot_right a = record { left = itself; right = bot_all; least = λ t l r. l }

pub Under-any : (t : Tag) → at_most_any t ≡ true → Under t Any
Under-any Bot e = bot_all
Under-any Zero e = zero_any
Under-any Solid e = solid_any
Under-any (Held l) e = held_any
Under-any Any e = itself
Under-any (Field l) e = cc
Under-any (New k) e = cc
Under-any Mixed e = cc

pub at_most_any-under : (t : Tag) → Under t Any → at_most_any t ≡ true
at_most_any-under _ itself = refl
at_most_any-under _ bot_all = refl
at_most_any-under _ zero_any = refl
at_most_any-under _ solid_any = refl
at_most_any-under _ held_any = refl

-- what is above another tag that is not Bot is Any or Mixed
above_other : (a b : Tag) → a ≢ b → b ≢ Bot → Under b a → Under Any a
above_other _ _ differ right itself = absurd (differ refl)
above_other _ _ differ right bot_all = absurd (right refl)
above_other _ _ differ right zero_any = itself
above_other _ _ differ right solid_any = itself
above_other _ _ differ right held_any = itself
above_other _ _ differ right all_mixed = all_mixed

above_both : (a b t : Tag) → a ≢ b → a ≢ Bot → b ≢ Bot → Under a t → Under b t → Under Any t
above_both a b _ differ left right itself r = above_other a b differ right r
above_both _ b t differ left right bot_all r = absurd (left refl)
above_both _ b _ differ left right zero_any r = itself
above_both _ b _ differ left right solid_any r = itself
above_both _ b _ differ left right held_any r = itself
above_both a b _ differ left right all_mixed r = all_mixed

mixed_only : (t : Tag) → Under Any t → t ≢ Any → Under Mixed t
mixed_only _ itself differs = absurd (differs refl)
mixed_only _ all_mixed differs = itself

pub IsJoin-any : (a b : Tag) → a ≢ b → a ≢ Bot → b ≢ Bot → at_most_any a ≡ true → at_most_any b ≡ true → IsJoin a b Any
IsJoin-any a b differ left right low_a low_b = record {
  left = Under-any a low_a;
  right = Under-any b low_b;
  least = λ t l r. above_both a b t differ left right l r;
}

pub IsJoin-mixed_left : (a b : Tag) → a ≢ b → a ≢ Bot → b ≢ Bot → at_most_any a ≡ false → IsJoin a b Mixed
IsJoin-mixed_left a b differ left right high = record {
  left = all_mixed;
  right = all_mixed;
  least = λ t l r. mixed_only t (above_both a b t differ left right l r)
      (λ e. let low : at_most_any a ≡ true = at_most_any-under a (subst (Under a) e l) in cc);
}

pub IsJoin-mixed_right : (a b : Tag) → a ≢ b → a ≢ Bot → b ≢ Bot → at_most_any b ≡ false → IsJoin a b Mixed
IsJoin-mixed_right a b differ left right high = record {
  left = all_mixed;
  right = all_mixed;
  least = λ t l r. mixed_only t (above_both a b t differ left right l r)
      (λ e. let low : at_most_any b ≡ true = at_most_any-under b (subst (Under b) e r) in cc);
}
