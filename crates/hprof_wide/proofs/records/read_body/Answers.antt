use Rattle.std.proofs.Common.{refl, sym, subst, arith}
use Rattle.hprof_wide.specs.Reading.{text_of, load_of, trace_of}
use Rattle.hprof_read.proofs.Segments.{all_bytes}
use Rattle.hprof_read.proofs.Bodies.{none_of}
use Rattle.hprof_wide.proofs.Bodies.{text_takes, load_takes, trace_takes, text_lacks, load_lacks, trace_lacks, kind_found, kind_fault}
use Rattle.hprof_read.proofs.Formats.{AreBytes}
use Rattle.hprof_wide.proofs.records.read_body.Goals as goal

pub returns-in-1-clause-found : goal.returns-in-1-clause-found
returns-in-1-clause-found c =
    let body = c.args.body.now in
    let fits : AreBytes body = all_bytes body (λ i. omega (arith, c.type_inv.body i)) in
    kind_found c.args.size 1 c.args.tag c.args.time c.args.at body (text_of c.args.size c.args.time body) c.read_text.result c.fields_of.result c.in-1.is (λ r. text_takes c.args.size c.args.time body r fits) c.read_text.ensures c.fields_of.ensures

pub returns-in-1-clause-fault : goal.returns-in-1-clause-fault
returns-in-1-clause-fault c =
    let body = c.args.body.now in
    kind_fault c.args.size 1 c.args.tag c.args.at body (text_of c.args.size c.args.time body) c.read_text.result c.fields_of.result c.in-1.is refl (text_lacks c.args.size c.args.time body) c.read_text.ensures c.fields_of.ensures

pub returns-in-2-clause-found : goal.returns-in-2-clause-found
returns-in-2-clause-found c =
    let body = c.args.body.now in
    let fits : AreBytes body = all_bytes body (λ i. omega (arith, c.type_inv.body i)) in
    kind_found c.args.size 2 c.args.tag c.args.time c.args.at body (load_of c.args.size c.args.time body) c.read_load.result c.fields_of-in-2.result c.in-2.is (λ r. load_takes c.args.size c.args.time body r fits) c.read_load.ensures c.fields_of-in-2.ensures

pub returns-in-2-clause-fault : goal.returns-in-2-clause-fault
returns-in-2-clause-fault c =
    let body = c.args.body.now in
    kind_fault c.args.size 2 c.args.tag c.args.at body (load_of c.args.size c.args.time body) c.read_load.result c.fields_of-in-2.result c.in-2.is refl (load_lacks c.args.size c.args.time body) c.read_load.ensures c.fields_of-in-2.ensures

pub returns-in-5-clause-found : goal.returns-in-5-clause-found
returns-in-5-clause-found c =
    let body = c.args.body.now in
    let fits : AreBytes body = all_bytes body (λ i. omega (arith, c.type_inv.body i)) in
    kind_found c.args.size 5 c.args.tag c.args.time c.args.at body (trace_of c.args.size c.args.time body) c.read_trace.result c.fields_of-in-5.result c.in-5.is (λ r. trace_takes c.args.size c.args.time body r fits) c.read_trace.ensures c.fields_of-in-5.ensures

pub returns-in-5-clause-fault : goal.returns-in-5-clause-fault
returns-in-5-clause-fault c =
    let body = c.args.body.now in
    kind_fault c.args.size 5 c.args.tag c.args.at body (trace_of c.args.size c.args.time body) c.read_trace.result c.fields_of-in-5.result c.in-5.is refl (trace_lacks c.args.size c.args.time body) c.read_trace.ensures c.fields_of-in-5.ensures

pub returns-in_ok-body-in_default-clause-found : goal.returns-in_ok-body-in_default-clause-found
returns-in_ok-body-in_default-clause-found c =
    let body = c.args.body.now in
    let fits : AreBytes body = all_bytes body (λ i. omega (arith, c.type_inv.body i)) in
    let none = none_of c.args.tag (λ e. omega arith) (λ e. omega arith) (λ e. omega arith) (λ e. omega arith) (λ e. omega arith) in
    ((omega arith, none, subst AreBytes (sym c.in_ok-body-in_default.ensures) fits), refl, refl, c.in_ok-body-in_default.ensures)
