-- Places that are kept through two steps.
use Rattle.std.proofs.Common.{subst, List, get_or, Any}
use Rattle.std.proofs.lemmas.List.{get_or_default}
use Rattle.report_state.specs.Places.{LogPlace, GoesOn, Keeps, KeepsApart}
use Rattle.report_state.proofs.Noted.{goes_on_on, goes_on_self}

keeps_all : (places : List LogPlace) → Keeps places places
keeps_all places k d below = (
  k,
  get_or places k d,
  below,
  get_or_default places k _ _ below,
  goes_on_self (get_or places k d),
)

goes_on_in : (b c : List LogPlace) → Keeps b c → (p : LogPlace) → Any (GoesOn p) b
    → Any (GoesOn p) c
goes_on_in b c keeps p (j, q, within, is, goes) =
    let later = keeps j q within in (
      later.0,
      later.1,
      later.2,
      later.3,
      goes_on_on p q later.1 goes (subst (λ (x : LogPlace). GoesOn x later.1) is later.4),
    )

pub kept_all : (places : List LogPlace) → KeepsApart places places
kept_all places = record { keeps = keeps_all places; apart = λ apart. apart }

pub kept_on : (a b c : List LogPlace) → KeepsApart a b → KeepsApart b c → KeepsApart a c
kept_on a b c one other = record {
  keeps = λ k d below. goes_on_in b c other.keeps (get_or a k d) (one.keeps k d below);
  apart = λ apart. other.apart (one.apart apart);
}
