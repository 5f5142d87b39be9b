use Rattle.std.proofs.Common.{refl}
use Rattle.script.specs.declared.row.Role.TheVariants as role
use Rattle.checker.specs.Machine.{branches, enters, begins_region}
use Rattle.checker.proofs.Stacks.{behind}
use Rattle.checker.proofs.types.Check.act.Goals as goal

pub returns-in-ThenOpen : goal.returns-in-ThenOpen
returns-in-ThenOpen c = behind role.ThenOpen branches c.args.seen.now c.args.r c.args.self.now c.branch-self.new.self c.in-ThenOpen.is (λ _ _. refl) c.branch-self.ensures

pub returns-in-BodyOpen : goal.returns-in-BodyOpen
returns-in-BodyOpen c = behind role.BodyOpen enters c.args.seen.now c.args.r c.args.self.now c.enter.new.self c.in-BodyOpen.is (λ _ _. refl) c.enter.ensures

pub returns-in-RegionOpen : goal.returns-in-RegionOpen
returns-in-RegionOpen c = behind role.RegionOpen begins_region c.args.seen.now c.args.r c.args.self.now c.open_region.new.self c.in-RegionOpen.is (λ _ _. refl) c.open_region.ensures
