use Rattle.fibs_picture.proofs.PictureLemmas.Eye.{eye-sees}
use Rattle.fibs_picture.proofs.laws.eye_sees.Goals as goal

pub returns : goal.returns
returns c = eye-sees
