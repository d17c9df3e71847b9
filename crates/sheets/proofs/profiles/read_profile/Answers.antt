-- The theorem beside the reading.
use Rattle.sheets.proofs.ExactProfiles.{exact_profile}
use Rattle.sheets.proofs.profiles.read_profile.Goals as goal

pub returns-in_err-rest-clause-exact : goal.returns-in_err-rest-clause-exact
returns-in_err-rest-clause-exact c = exact_profile

pub returns-in_err-walk-clause-exact : goal.returns-in_err-walk-clause-exact
returns-in_err-walk-clause-exact c = exact_profile

pub returns-clause-exact : goal.returns-clause-exact
returns-clause-exact c = exact_profile
