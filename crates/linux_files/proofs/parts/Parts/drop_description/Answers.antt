use Rattle.std.proofs.Common.{◌∙◌, ap, refl, subst, sym}
use Rattle.file_tree.proofs.Members.{value-same}
use Rattle.linux_files.proofs.Drops.{console-dropped, node-dropped, reader-dropped, writer-dropped}
use Rattle.linux_files.specs.Seen.{is_used}
use Rattle.linux_files.specs.Steps.{Follows}
use Rattle.linux_files.specs.declared.parts.Parts.{Parts}
use Rattle.linux_files.proofs.parts.Parts.drop_description.Goals as goal

pub returns-in-OfNode-clause-follows : goal.returns-in-OfNode-clause-follows
returns-in-OfNode-clause-follows c =
    node-dropped c.args.self.now _ c.args.d c.remove-file.result c.requires.kept c.remove-file.ensures.value
    (ap (is_used c.args.self.now c.args.d) (value-same c.remove-file.result c.requires.unused.description (sym c.remove-file.ensures.value ∙ c.requires.unused.there)) ∙ c.requires.unused.unused) (ap (λ t. t.map) c.remove-file.ensures.rest)
    refl refl c.release.ensures.next refl refl refl c.in-OfNode.node (ap (λ y. y.target) (sym c.get.ensures.is) ∙ c.in-OfNode.is) c.release.ensures.holds c.release.ensures.map refl refl refl

pub returns-in-OfConsole-clause-follows : goal.returns-in-OfConsole-clause-follows
returns-in-OfConsole-clause-follows c =
    console-dropped c.args.self.now _ c.args.d c.remove-file.result c.requires.kept c.remove-file.ensures.value
    (ap (is_used c.args.self.now c.args.d) (value-same c.remove-file.result c.requires.unused.description (sym c.remove-file.ensures.value ∙ c.requires.unused.there)) ∙ c.requires.unused.unused) (ap (λ t. t.map) c.remove-file.ensures.rest)
    refl refl refl refl refl refl c.in-OfConsole.field-0 (ap (λ y. y.target) (sym c.get.ensures.is) ∙ c.in-OfConsole.is) refl refl refl refl refl

pub returns-in-ReadEnd-clause-follows : goal.returns-in-ReadEnd-clause-follows
returns-in-ReadEnd-clause-follows c =
    subst (λ (p : Parts). Follows c.args.self.now p) (sym c.settle_pipe.ensures.rest)
    (reader-dropped c.args.self.now _ c.args.d c.remove-file.result c.requires.kept c.remove-file.ensures.value
    (ap (is_used c.args.self.now c.args.d) (value-same c.remove-file.result c.requires.unused.description (sym c.remove-file.ensures.value ∙ c.requires.unused.there)) ∙ c.requires.unused.unused) (ap (λ t. t.map) c.remove-file.ensures.rest)
    refl refl refl refl refl refl c.in-ReadEnd.pipe (ap (λ y. y.target) (sym c.get.ensures.is) ∙ c.in-ReadEnd.is) refl refl c.lower.ensures.counts refl c.settle_pipe.ensures.map)

pub returns-in-WriteEnd-clause-follows : goal.returns-in-WriteEnd-clause-follows
returns-in-WriteEnd-clause-follows c =
    subst (λ (p : Parts). Follows c.args.self.now p) (sym c.settle_pipe-in-WriteEnd.ensures.rest)
    (writer-dropped c.args.self.now _ c.args.d c.remove-file.result c.requires.kept c.remove-file.ensures.value
    (ap (is_used c.args.self.now c.args.d) (value-same c.remove-file.result c.requires.unused.description (sym c.remove-file.ensures.value ∙ c.requires.unused.there)) ∙ c.requires.unused.unused) (ap (λ t. t.map) c.remove-file.ensures.rest)
    refl refl refl refl refl refl c.in-WriteEnd.pipe (ap (λ y. y.target) (sym c.get.ensures.is) ∙ c.in-WriteEnd.is) refl refl refl c.lower-in-WriteEnd.ensures.counts
    c.settle_pipe-in-WriteEnd.ensures.map)
