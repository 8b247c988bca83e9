use Rattle.instant_core.proofs.laws.steps_law.Goals as goal
use Rattle.instant_core.proofs.Facts.{whole}
use Rattle.instant_core.proofs.Quiet.{loads, seeks, looks, counts}
use Rattle.instant_core.proofs.Counter.{announces, finishes}
use Rattle.instant_core.proofs.Claims.{claims}
use Rattle.instant_core.proofs.Posts.{posts}
use Rattle.instant_core.proofs.Raises.{raises}
use Rattle.instant_core.proofs.Seats.{adds, splits, joins}

pub returns : goal.returns
returns c = λ net input words views seat v h. let w = whole net h.net_is in record {
  load = λ i lt. loads net input words views seat i v w lt h.live h.instant h.at;
  seek = λ leaf. seeks net input words views seat leaf v w h.live h.instant h.at;
  phase = looks net input words views seat v w h.live h.instant h.at;
  count = counts net input words views seat v w h.live h.instant h.at;
  announce = λ leaf may. announces net input words views seat leaf v w may h.instant h.at;
  claim = λ leaf hand. claims net input words views seat leaf v w h.live hand h.instant h.at;
  post = λ leaf n hand more. posts net input words views seat leaf n v w h.live hand more h.instant h.at;
  finish = λ leaf hand. finishes net input words views seat leaf v w h.live hand h.instant h.at;
  raise = λ p m few mark covers. raises net input words views seat p v m w h.strat few h.input_are h.live mark covers h.instant h.at;
  split = λ n has. splits net input words views seat n v w h.live has h.instant h.at;
  add = λ n free. adds net input words views seat n v free h.live h.instant h.at;
  join = λ other o alive bare empty apart there. joins net input words views seat other v o w h.live alive bare empty h.instant h.at apart there;
}
