-- Definitions: Base. Laws: the other modules, each on one subject.
pub mod Base
pub mod Natural
pub mod Truth
pub mod Bound
pub mod Signed
pub mod Expression
pub mod Linear
pub mod Size
pub mod Saturation
pub mod Limit
pub mod Sum
pub mod Fill
pub mod FromFn
pub mod Lent
pub mod Table
