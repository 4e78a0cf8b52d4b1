-- The laws of one step, from what is listed and what is next.
use Rattle.std.proofs.Common.{◌≡◌, ℕ, ◌≤◌, List, length, sym, subst}
use mathlib.Core.Option.{Option}
use Rattle.std.specs.List.{AllByRecursion}
use Rattle.search.specs.Verdicts.{Verdict, Entry, found, Clear, Faulty}
use Rattle.search.specs.Next.{upnext}
use Rattle.search.specs.Laws.{Correct, Lists, Leads}
use Rattle.search.proofs.Next.{next_leads}
use Rattle.search.proofs.Sound.{found_correct, faulty_truthful}
use Rattle.search.proofs.Whole.{clear_truthful}

module _ {M : Type 0} (number : M → List ℕ) (D : ℕ) (p : List ℕ) (v : Verdict M) where
  pub leads_by : (q : Option (List ℕ)) → q ≡ upnext D p v → Leads number D p v q
  leads_by q e = subst (Leads number D p v) (sym e) (next_leads M number D p v)

  pub lists_by : length p ≤ D → (es : List (Entry M)) → es ≡ found D p v → Lists number D p v es
  lists_by short es e ms faultless hs told =
      let F : List (Entry M) → Type 0 = AllByRecursion (Correct number ms 1) in
      let C : List (Entry M) → Type 0 = AllByRecursion (Correct number ms 2) in (
        subst F (sym e) (found_correct number ms 1 (Faulty number ms) (faulty_truthful number ms) D hs p v short told.0),
        λ f. subst C (sym e) (found_correct number ms 2 (Clear number ms) (clear_truthful number ms) D hs p v short (told.1 f)),
      )
