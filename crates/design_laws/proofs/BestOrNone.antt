-- A network has a best design, or no design of it meets the rules: one goes over the list of all designs that fit,
-- and keeps the first of those that meet the rules.
use Rattle.std.proofs.Common.{◌≡◌, ◌⊎◌, inl, inr, List, [], ◌∷◌, ◌∙◌, sym, subst}
use Rattle.std.proofs.lemmas.Bool.{cases_Bool, both_ways}
use Rattle.std.specs.Prelude.{◌&&◌}
use Rattle.duct_definitions.specs.declared.design.Design.{Design}
use Rattle.duct_definitions.specs.Network.{Network}
use Rattle.duct_definitions.specs.Designs.{Meets}
use Rattle.duct_definitions.specs.Order.{Before, IsBest, NoneMeets}
use Rattle.design_laws.proofs.Among.{Among}
use Rattle.design_laws.proofs.Listing.{designs, Among-designs}
use Rattle.design_laws.proofs.Best.{fits, suffices, Meets-tested, passes-from}
use Rattle.design_laws.proofs.TotalOrder.{before_total, before_then}

pub Meets-decided : (net : Network) (d : Design) → Meets net d ⊎ (Meets net d → ⊥)
Meets-decided net d =
    elim (cases_Bool (fits net d && suffices net d)) [
      | inl passes ↦ inl (Meets-tested net d passes)
      | inr fails ↦ inr (λ meets. both_ways _ fails (passes-from net d meets))
    ]

-- the design meets the rules, and comes first among those of the list that do
record IsFirst (net : Network) (ds : List Design) (d : Design) : Type 0 where
  meets : Meets net d
  first : (e : Design) → Among e ds → Meets net e → (e ≡ d) ⊎ Before net d e

FirstOrNone : Network → List Design → Type 0
FirstOrNone net ds = ((d : Design) × IsFirst net ds d) ⊎ ((e : Design) → Among e ds → Meets net e → ⊥)

-- one more design that meets the rules, before or behind the first so far
IsFirst-more : (net : Network) (d b : Design) (ds : List Design) → Meets net d → IsFirst net ds b
    → (x : Design) × IsFirst net (d ∷ ds) x
IsFirst-more net d b ds meets so_far =
    elim (before_total net d b meets.fits so_far.meets.fits) [
      | inl same ↦ (
        b,
        record {
          meets = so_far.meets;
          first = λ e among meets_too. elim among [
            | inl here ↦ inl (here ∙ sym same)
            | inr later ↦ so_far.first e later meets_too
          ];
        },
      )
      | inr apart ↦ elim apart [
        | inl before ↦ (
          d,
          record {
            meets = meets;
            first = λ e among meets_too. elim among [
              | inl here ↦ inl here
              | inr later ↦ elim (so_far.first e later meets_too) [
                | inl same ↦ inr (subst (Before net d) (sym same) before)
                | inr behind ↦ inr (before_then net d b e before behind)
              ]
            ];
          },
        )
        | inr behind ↦ (
          b,
          record {
            meets = so_far.meets;
            first = λ e among meets_too. elim among [
              | inl here ↦ inr (subst (Before net b) (sym here) behind)
              | inr later ↦ so_far.first e later meets_too
            ];
          },
        )
      ]
    ]

first_or_none : (net : Network) (ds : List Design) → FirstOrNone net ds
unfolding FirstOrNone
first_or_none net [] = inr (λ e among meets. among)
first_or_none net (d ∷ ds) =
    elim (Meets-decided net d) [
      | inl meets ↦ elim (first_or_none net ds) [
        | inl found ↦ inl (IsFirst-more net d found.0 ds meets found.1)
        | inr none ↦ inl (
          d,
          record {
            meets = meets;
            first = λ e among meets_too. elim among [
              | inl here ↦ inl here
              | inr later ↦ absurd (none e later meets_too)
            ];
          },
        )
      ]
      | inr fails ↦ elim (first_or_none net ds) [
        | inl found ↦ inl (
          found.0,
          record {
            meets = found.1.meets;
            first = λ e among meets_too. elim among [
              | inl here ↦ absurd (fails (subst (Meets net) here meets_too))
              | inr later ↦ found.1.first e later meets_too
            ];
          },
        )
        | inr none ↦ inr (λ e among meets. elim among [
          | inl here ↦ fails (subst (Meets net) here meets)
          | inr later ↦ none e later meets
        ])
      ]
    ]

pub best_or_none : (net : Network) → ((d : Design) × IsBest net d) ⊎ NoneMeets net
unfolding FirstOrNone
best_or_none net =
    elim (first_or_none net (designs net)) [
      | inl found ↦ inl (
        found.0,
        record {
          meets = found.1.meets;
          first = λ e meets. found.1.first e (Among-designs net e meets.fits) meets;
        },
      )
      | inr none ↦ inr (λ d meets. none d (Among-designs net d meets.fits) meets)
    ]
