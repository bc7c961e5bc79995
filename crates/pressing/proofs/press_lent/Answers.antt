-- A test that fails shows that keys cannot give the form; where all hold, the fields but the open one are judged.
use mathlib.Core.Logic.{inl}
use mathlib.Core.Path.{refl}
use native.Mathlib.Omega.{arith}
use borrow.Author.Rules.{rules}
use Rattle.desk_rules.proofs.Press.{refused}
use Rattle.pressing.proofs.Lent.{refused_filled, refused_empty, presses_all}
use Rattle.pressing.proofs.press_lent.Goals as goal

pub press_open-requires : goal.press_open-requires
press_open-requires c =
    let w = c.is_within.ensures.yes c.if-not-is_within.false in
    record {
      lent = c.requires;
      fields = w.0;
      at = refl;
      is_open = omega (arith, w.1, c.if-closed-count.false);
      closed = c.are_filled.ensures.yes c.if-not-are_filled.false;
      later = c.are_empty-2.ensures.yes c.if-not-are_empty-2.false;
      sound = c.are_sound.ensures.yes c.if-not-are_sound.false;
    }

pub returns-then-not-is_within : goal.returns-then-not-is_within
returns-then-not-is_within c = refused c.requires (λ s v. c.is_within.ensures.no c.if-not-is_within.true (v.fields, v.within))

pub returns-then-not-are_filled : goal.returns-then-not-are_filled
returns-then-not-are_filled c =
    let w = c.is_within.ensures.yes c.if-not-is_within.false in
    refused_filled c.requires (omega (arith, w.1, w.0.few)) (c.are_filled.ensures.no c.if-not-are_filled.true)

pub returns-then-not-are_empty : goal.returns-then-not-are_empty
returns-then-not-are_empty c =
    let w = c.is_within.ensures.yes c.if-not-is_within.false in
    refused_empty c.requires w.0 c.if-closed-count.true (c.are_empty.ensures.no c.if-not-are_empty.true)

pub returns-then-closed-count : goal.returns-then-closed-count
returns-then-closed-count c =
    let w = c.is_within.ensures.yes c.if-not-is_within.false in
    presses_all c.requires w.0 c.if-closed-count.true (λ i. search rules)
    (c.are_filled.ensures.yes c.if-not-are_filled.false) (c.are_empty.ensures.yes c.if-not-are_empty.false)

pub returns-then-not-are_empty-2 : goal.returns-then-not-are_empty-2
returns-then-not-are_empty-2 c = refused c.requires (λ s v. c.are_empty-2.ensures.no c.if-not-are_empty-2.true (λ g h k. v.later g h (inl (omega arith))))

pub returns-then-not-are_sound : goal.returns-then-not-are_sound
returns-then-not-are_sound c = refused c.requires (λ s v. c.are_sound.ensures.no c.if-not-are_sound.true (λ f h k. s f h))
