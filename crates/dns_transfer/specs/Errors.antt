-- The error that reports a fault.
use Rattle.dns_name.specs.Names.{Fault}
use Rattle.dns_name.specs.Names.Fault.{ShortInput, Form}
use Rattle.dns_octets.specs.declared.error.ParseError.{ParseError}
use Rattle.dns_octets.specs.declared.error.ParseError.TheVariants as errors

-- the error that reports a fault: the inverse of `fault_of`
abbrev pub error_of : Fault → ParseError
error_of ShortInput = errors.ShortInput
error_of (Form cause) = errors.Form cause
