use Rattle.search.proofs.Sound.{listed_truly}
use Rattle.search.proofs.Places.{places_enough}
use Rattle.search.proofs.Whole.{listed_wholly}
use Rattle.search.proofs.Clear.{search_ends}
use Rattle.search.proofs.Next.{told_is_faulty}
use Rattle.search.proofs.Values.{values_rise}
use Rattle.search.proofs.laws.list_laws.Goals as goal

pub returns : goal.returns
returns g c =
    record {
      truly = listed_truly _;
      places = places_enough _;
      wholly = listed_wholly _;
      ends = search_ends _;
      told = told_is_faulty _;
      values = values_rise;
    }
