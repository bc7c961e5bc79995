-- Opening is determined: the conditions exclude one another, and a form of nothing is one.
--   determined: two results of one opening are equal, with every byte of the form
use Prim.Native.Nat.{ℕ}
use mathlib.Core.Path.{◌≡◌, refl, sym, ◌∙◌}
use mathlib.Core.List.{List}
use Rattle.desk_rules.specs.Entry.{nothing}
use Rattle.desk_rules.specs.Open.{Opens, no_fields, no_room, no_form, opened}
use Rattle.desk_histories.proofs.One.{agree_self, shown_one}

module _ {n : ℕ} {rooms form a b : List ℕ} where
  -- two results of one opening: the numbers, the forms
  pub determined : {i j : ℕ} → Opens n rooms form a i → Opens n rooms form b j → (i ≡ j) × (a ≡ b)
  determined (no_fields h k) (no_fields h' k') = (refl, k ∙ sym k')
  determined (no_fields h k) (no_room f' h' k') = absurd (h f')
  determined (no_fields h k) (no_form f' l' h' k') = absurd (h f')
  determined (no_fields h k) (opened f' l' s' e' k') = absurd (h f')
  determined (no_room f h k) (no_fields h' k') = absurd (h' f)
  determined (no_room f h k) (no_room f' h' k') = (refl, k ∙ sym k')
  determined (no_room f h k) (no_form f' l' h' k') = absurd (h l')
  determined (no_room f h k) (opened f' l' s' e' k') = absurd (h l')
  determined (no_form f l h k) (no_fields h' k') = absurd (h' f)
  determined (no_form f l h k) (no_room f' h' k') = absurd (h' l)
  determined (no_form f l h k) (no_form f' l' h' k') = (refl, k ∙ sym k')
  determined (no_form f l h k) (opened f' l' s' e' k') = absurd (h s')
  determined (opened f l s e k) (no_fields h' k') = absurd (h' f)
  determined (opened f l s e k) (no_room f' h' k') = absurd (h' l)
  determined (opened f l s e k) (no_form f' l' h' k') = absurd (h' s)
  determined (opened f l s e k) (opened f' l' s' e' k') = (refl, shown_one (agree_self nothing) e k e' k')
