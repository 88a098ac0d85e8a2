-- Every tag that flows is one of the application.
use Rattle.std.proofs.Common.{◌≡◌, ℕ, ◌<◌, List, length, true, Some, sym, ap, ◌∙◌, subst, arith}
use Rattle.std.proofs.lemmas.Option.{slice_get-get_or}
use Rattle.app_model.specs.Sites.{site_at}
use Rattle.app_model.specs.declared.tag.Tag.{Tag}
use Rattle.app_model.specs.declared.tag.Tag.TheVariants.{Bot}
use Rattle.act_model.specs.declared.act.Act.{Act}
use Rattle.app_model.specs.Masks.{in_lock_mask}
use Rattle.act_model.specs.Acts.{act_at}
use Rattle.tag_rows.specs.declared.change.Change.{Change}
use Rattle.tag_rows.specs.declared.sites.Site.{Site}
use Rattle.tag_flow.specs.Known.{IsKnown, KnownParts}
use Rattle.tag_flow.specs.Turns.{Leads, leads_after, leads_thrown, leads_past, leads_out}
use Rattle.tag_rows.specs.Changes.{changed, makes_lock}
use Rattle.tag_rows.proofs.Acts.{act_made, act_slot, act_within, method_within}
use Rattle.tag_rows.proofs.Fits.{AllFit, after_fits, called_fits, map_fits, set_fits, thrown_fits}

module _ (k : KnownParts) (known : IsKnown k) where
  site_below : (m i : ℕ) (a : Act) → act_at k.app m i ≡ Some a → makes_lock a ≡ true → site_at k.app m i < 64
  site_below m i a is makes =
      let within = act_within k.app m i a is in
      let there = known.sites.all m i (method_within k.app m i known.app.sizes within) within (act_made k.app m i a is makes) in
      let site : Site = record { method = record { 0 = m }; index = i } in
      let same = known.sites.only there.0 site (slice_get-get_or k.sites there.0 site there.1 ∙ ap Some there.2) in
      (let few = known.few_sites in omega (arith, same, there.1, few))

  pub change_fits : (m i j : ℕ) (change : Change) → Leads k m i j change → (row : List Tag) → AllFit (length k.app.locks) row → AllFit (length k.app.locks) (changed change row)
  change_fits m i j _ (leads_after x a site is leads outside same to) row all =
      subst (AllFit (length k.app.locks)) (sym (same row)) (after_fits (length k.app.locks) (site_at k.app m i) a row (λ l named. act_slot k.app m i l a is named) (site_below m i a is) all)
  change_fits m i j _ (leads_thrown x a is can to) row all = thrown_fits (length k.app.locks) a row all
  change_fits m i j _ (leads_past x gone union to) row all =
      set_fits (length k.app.locks) _ _ Bot (map_fits (length k.app.locks) _ (called_fits (length k.app.locks) (in_lock_mask gone)) row all) tt
  change_fits m i j _ (leads_out x gone union to) row all = map_fits (length k.app.locks) _ (called_fits (length k.app.locks) (in_lock_mask gone)) row all
